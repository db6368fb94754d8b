-- What std takes as a file's name: UTF-8 text without the byte 0, which ends a name for the system.
use Rattle.std.specs.Prelude.{◌≡◌, ℕ, false, List, ◌==◌, IsUtf8}
use Rattle.std.specs.List.{list_any}

abbrev pub IsPath : List ℕ → Type 0
IsPath name = IsUtf8 name × (list_any (λ byte. byte == 0) name ≡ false)
