-- Which part of the judge gave a refusal, by the refusal's turn: those before it keep their rules. Assumes nothing.
use Rattle.std.specs.Prelude.{◌≡◌, ◌↔◌, List, ℕ, suc, ◌+◌, ◌≤◌, Err}
use mathlib.Core.Logic.Iff
use Rattle.std.proofs.Common.{arith}
use Rattle.scene.specs.Limits.{Limits}
use Rattle.scene.specs.Records.{verts, faces, last_record}
use Rattle.scene.specs.declared.Refusal.{Refusal}
use Rattle.judge.specs.Judge.{and_then, judged_at, header_fault, record_fault, records_fault, unused_fault, unuseds_fault, edge_fault, edges_fault}
use Rattle.judge.specs.Tests.{First, first_refused}
use Rattle.rules.specs.Rules.{HeaderOk, RecordsOk, AllUsed}
use Rattle.rules.specs.Numbers.{check_order, Gives, gives, gives_then, gives_first, gives_wider, then_here, then_next}
use Rattle.rules.proofs.Faults.{record_gives}
use Rattle.rules.proofs.Accepted.{header_iff, records_iff, unused_iff}

module _ (l : Limits) (s : List ℕ) where
  header_gives : Gives 1 3 (header_fault l s)
  unfolding header_fault
  header_gives = search gives depth 6

  records_give : Gives 4 8 (records_fault l s)
  unfolding records_fault
  records_give = gives_first 4 8 (record_fault l s) 1 (last_record s + 1) (λ k a b. record_gives l s k a (omega arith))

  unused_give : Gives 9 9 (unuseds_fault s)
  unfolding unuseds_fault unused_fault
  unused_give = gives_first 9 9 (unused_fault s) 1 (verts s + 1) (λ p a b. search gives)

  edges_give : Gives 10 10 (edges_fault s)
  unfolding edges_fault edge_fault
  edges_give = gives_first 10 10 (edge_fault s) 0 (faces s) (λ i a b. search gives)

  after_records : Gives 9 10 (and_then (unuseds_fault s) (edges_fault s))
  after_records =
      gives_then 9 10 _ _ (gives_wider 9 10 (omega arith) (omega arith) unused_give)
      (gives_wider 9 10 (omega arith) (omega arith) edges_give)

  after_header : Gives 4 10 (and_then (records_fault l s) (and_then (unuseds_fault s) (edges_fault s)))
  after_header =
      gives_then 4 10 _ _ (gives_wider 4 10 (omega arith) (omega arith) records_give)
      (gives_wider 4 10 (omega arith) (omega arith) after_records)

  -- a scene is refused at the turns 1 to 10 only
  pub judge_gives : Gives 1 10 (judged_at l s)
  unfolding judged_at
  judge_gives =
      gives_then 1 10 _ _ (gives_wider 1 10 (omega arith) (omega arith) header_gives)
      (gives_wider 1 10 (omega arith) (omega arith) after_header)

  module _ (r : Refusal) where
    pub by_header : check_order r ≤ 3 → (judged_at l s ≡ Err r) ↔ (header_fault l s ≡ Err r)
    unfolding judged_at
    by_header h = then_here _ _ r 10 (gives_wider (suc (check_order r)) 10 (omega arith) (omega arith) after_header)

    pub by_records : 4 ≤ check_order r → check_order r ≤ 8 →
        (judged_at l s ≡ Err r) ↔ (HeaderOk l s × First (record_fault l s) 1 (last_record s + 1) r)
    unfolding judged_at records_fault
    by_records a b =
        then_next _ _ r 1 3 header_gives (omega arith) (header_iff l s)
        (Iff.trans (then_here _ _ r 10 (gives_wider (suc (check_order r)) 10 (omega arith) (omega arith) after_records))
        (first_refused _ r _ _))

    pub by_unused : check_order r ≡ 9 → (judged_at l s ≡ Err r) ↔
        (HeaderOk l s × (RecordsOk l s × First (unused_fault s) 1 (verts s + 1) r))
    unfolding judged_at unuseds_fault
    by_unused h =
        then_next _ _ r 1 3 header_gives (omega arith) (header_iff l s)
        (then_next _ _ r 4 8 records_give (omega arith) (records_iff l s)
        (Iff.trans (then_here _ _ r 10 (gives_wider (suc (check_order r)) 10 (omega arith) (omega arith) edges_give))
        (first_refused _ r _ _)))

    pub by_edges : check_order r ≡ 10 →
        (judged_at l s ≡ Err r) ↔ (HeaderOk l s × (RecordsOk l s × (AllUsed s × First (edge_fault s) 0 (faces s) r)))
    unfolding judged_at edges_fault
    by_edges h =
        then_next _ _ r 1 3 header_gives (omega arith) (header_iff l s)
        (then_next _ _ r 4 8 records_give (omega arith) (records_iff l s)
        (then_next _ _ r 9 9 unused_give (omega arith) (unused_iff s) (first_refused _ r _ _)))
