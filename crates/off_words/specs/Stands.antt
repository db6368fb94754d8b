-- What stands at an offset where a text leaves the form, by the item there, in words. Assumes nothing.
use Rattle.std.specs.Prelude.{ℕ, suc, ◌+◌, ◌-◌, ◌≤◌, ◌<◌, ◌≡◌, Bool, true, false, cond, ◌&&◌, ◌||◌, List, [], ◌∷◌, ◌++◌, eqb, leb, length, get_or, take, drop}
use Rattle.std.proofs.Math.Path.{sym}
use Rattle.std.proofs.Common.{ap, ◌∙◌, subst, add-one, rules, eq-eqb, ne_eqb, le-leb, drop_of_length-le, drop-cons}
use Rattle.std.proofs.lemmas.Bool.{lt-leb}
use Rattle.print.specs.Put.{Put}
use Rattle.print.specs.Text.{ascii}
use Rattle.scene.specs.Bytes.{byte_at}
use Rattle.off_items.specs.Items.{start_of, end_of}
use Rattle.off_items.specs.Numbers.{is_whole}
use Rattle.off_words.specs.Shown.{shown}
use Rattle.off_words.specs.declared.stands.Stand.{Stand}
use Rattle.off_words.specs.declared.stands.Stand.TheVariants.{Mark, Tab, Return, Keyword, Behind, Minus, Other}

unfoldable pub holds : ℕ → List ℕ → Bool
holds c [] = false
holds c (b ∷ w) = eqb b c || holds c w

-- a byte order mark, in UTF-8, comes first
unfoldable pub is_marked : List ℕ → Bool
is_marked w = eqb (byte_at w 0) 239 && (eqb (byte_at w 1) 187 && eqb (byte_at w 2) 191)

-- of an item outside the form, the text's first or not. (A whole number without a sign is outside it behind the last face alone.)
unfoldable pub stand_of : Bool → List ℕ → Stand
stand_of first w =
    cond (is_marked w) Mark
    (cond (holds 9 w) Tab
    (cond (holds 13 w) Return
    (cond first Keyword
    (cond (is_whole false w 0 (length w)) Behind
    (cond (is_whole true w 0 (length w)) Minus Other)))))

abbrev pub quoted : List ℕ → List ℕ → List ℕ
quoted w rule = ascii ": \"" ++ (shown w ++ rule)

abbrev pub stand_words : List ℕ → Stand → List ℕ
stand_words w Mark = ascii ": a byte order mark, and none may stand in the text\n"
stand_words w Tab = ascii ": a tab, and only spaces and newlines may stand between numbers\n"
stand_words w Return = ascii ": a Windows line end (carriage return), and only spaces and newlines may stand between numbers\n"
stand_words w Keyword = quoted w (ascii "\" is not OFF or 4OFF\n")
stand_words w Behind = quoted w (ascii "\" stands behind the last face, and nothing may follow that\n")
stand_words w Minus = quoted w (ascii "\" has a minus sign, and only coordinates and weights may have one\n")
stand_words w Other = quoted w (ascii "\" is not a whole number\n")

abbrev pub outside_of : Bool → List ℕ → List ℕ
outside_of first w = stand_words w (stand_of first w)

-- the size of a face that is not a triangle
abbrev pub corners_of : List ℕ → List ℕ
corners_of w = ascii ": a face with " ++ (shown w ++ ascii " corners, and only triangles without colours are taken\n")

-- the first item from k on
abbrev pub item_from : List ℕ → ℕ → List ℕ
item_from s k = take (end_of s k - start_of s k) (drop (start_of s k) s)

-- at offset k of a text: the size of a face that is not a triangle, or an item outside the form
unfoldable pub standing : Bool → List ℕ → ℕ → List ℕ
standing sides s k =
    cond (leb (length s) k) (ascii ": the text ends here, and more must come\n")
    (cond sides (corners_of (item_from s k)) (outside_of (eqb (start_of s 0) k) (item_from s k)))

-- ---- a loop's turn: the rest holds the byte as the whole does

module _ (c : ℕ) (w : List ℕ) (i : ℕ) {r : Bool} (inv : holds c (drop i w) ≡ r) where
  pub holds_stop : length w ≤ i → false ≡ r
  unfolding holds
  holds_stop h = sym (ap (holds c) (drop_of_length-le w h)) ∙ inv

  module _ (h : i < length w) where
    turn : (eqb (get_or w i 0) c || holds c (drop (suc i) w)) ≡ r
    unfolding holds
    turn = sym (ap (holds c) (drop-cons w i 0 h)) ∙ inv

    pub holds_found : get_or w i 0 ≡ c → true ≡ r
    holds_found e = sym (ap (λ (b : Bool). b || holds c (drop (suc i) w)) (eq-eqb (get_or w i 0) c e)) ∙ turn

    pub holds_next : (get_or w i 0 ≡ c → ⊥) → holds c (drop (i + 1) w) ≡ r
    holds_next e =
        ap (λ (k : ℕ). holds c (drop k w)) (add-one i)
        ∙ sym (ap (λ (b : Bool). b || holds c (drop (suc i) w)) (ne_eqb (get_or w i 0) c e)) ∙ turn

pub ruleset finds = (holds_stop, holds_found, holds_next, rules)

-- ---- from the tests' answers: by which case, and the words that were put

module _ {o x : Bool} {r : Stand} (a b : Stand) (p : o ≡ x) where
  pub is_so : o ≡ true → r ≡ a → r ≡ cond x a b
  is_so q e = e ∙ ap (λ (t : Bool). cond t a b) (sym q ∙ p)

  pub is_not_so : o ≡ false → r ≡ b → r ≡ cond x a b
  is_not_so q e = e ∙ ap (λ (t : Bool). cond t a b) (sym q ∙ p)

module _ {l : List ℕ} {at : ℕ} {m : List ℕ} {p : ℕ} where
  pub stand_put : (first : Bool) (w : List ℕ) {o x : Stand} → o ≡ stand_of first w → o ≡ x → Put l at (stand_words w x) m p →
      Put l at (outside_of first w) m p
  stand_put first w q e x = subst (λ (r : Stand). Put l at (stand_words w r) m p) (sym e ∙ q) x

  module _ (sides : Bool) (s : List ℕ) (k : ℕ) where
    pub ends_here : length s ≤ k → Put l at (ascii ": the text ends here, and more must come\n") m p → Put l at (standing sides s k) m p
    unfolding standing
    ends_here h x = rw (le-leb (length s) k h) x

    module _ (h : k < length s) {b e : ℕ} (pb : b ≡ start_of s k) (pe : e ≡ end_of s k) where
      pub corners_here : sides ≡ true → Put l at (corners_of (take (e - b) (drop b s))) m p → Put l at (standing sides s k) m p
      unfolding standing
      corners_here q x = rw (lt-leb (length s) k h, q, ← pe, ← pb) x

      pub outside_here : sides ≡ false → {i : ℕ} → i ≡ start_of s 0 → Put l at (outside_of (eqb i k) (take (e - b) (drop b s))) m p →
          Put l at (standing sides s k) m p
      unfolding standing
      outside_here q pi x = rw (lt-leb (length s) k h, q, ← pe, ← pb, ← pi) x
