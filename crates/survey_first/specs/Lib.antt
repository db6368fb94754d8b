pub mod First
pub mod FirstLook
pub mod FindFirst
pub mod Still
