-- A fault is told and leaves the buffer; else it is filled.
use Rattle.map_image.proofs.Faults.{image_refused, image_written, fill_ready}
use Rattle.map_image.proofs.image.image.Goals as goal

pub fill-requires : goal.fill-requires
fill-requires c = fill_ready c.image_fault.ensures c.in_ok-image_fault.was

pub returns-in_err-image_fault : goal.returns-in_err-image_fault
returns-in_err-image_fault c = image_refused c.image_fault.ensures c.in_err-image_fault.was c.from_residual.ensures.1

pub returns : goal.returns
returns c = image_written c.image_fault.ensures c.in_ok-image_fault.was c.fill.ensures
