-- What the rules say of an area's entries (RULES 6.7 to 6.9: 11, 13, 17 and 18), without a file: n lines, each with a left and a
-- right area, and the entries of an area. Assumes nothing.
--   listed_in e es                    e is one of the entries es
--   Known, NoRepeat, Own, Present     rules 11, 13, 17, 18
--   Listed n left right a es          es are area a's entries by all four
use Rattle.std.specs.Prelude.{Bool, true, false, ◌||◌, List, [], ◌∷◌, ◌≡◌, ℕ, ◌≤◌, ◌<◌, eqb}
use Rattle.measures.specs.Measures.{Entry, plus, minus}

abbrev pub same_entry : Entry → Entry → Bool
same_entry (plus k) (plus i) = eqb k i
same_entry (plus k) (minus i) = false
same_entry (minus k) (plus i) = false
same_entry (minus k) (minus i) = eqb k i

-- e is one of the entries
unfoldable pub listed_in : Entry → List Entry → Bool
listed_in e [] = false
listed_in e (x ∷ es) = same_entry x e || listed_in e es

-- P of every entry
abbrev pub Each : (Entry → Type 0) → List Entry → Type 0
Each P [] = Unit {0}
Each P (e ∷ es) = P e × Each P es

abbrev pub entry_line : Entry → ℕ
entry_line (plus i) = i
entry_line (minus i) = i

-- the area on the entry's right hand: forwards its line's right area, backwards its line's left one
abbrev pub entry_area : (ℕ → ℕ) → (ℕ → ℕ) → Entry → ℕ
entry_area left right (plus i) = right i
entry_area left right (minus i) = left i

-- an entry of one of the lines 1 to n
abbrev pub Named : ℕ → Entry → Type 0
Named n e = (0 < entry_line e) × (entry_line e ≤ n)

-- RULES 6.7, 11: each entry names a line
abbrev pub Known : ℕ → List Entry → Type 0
Known n es = Each (Named n) es

-- RULES 6.8, 13: no entry stands twice
abbrev pub NoRepeat : List Entry → Type 0
NoRepeat [] = Unit {0}
NoRepeat (e ∷ es) = (listed_in e es ≡ false) × NoRepeat es

-- RULES 6.8, 17: each entry is area a's own
abbrev pub Own : (ℕ → ℕ) → (ℕ → ℕ) → ℕ → List Entry → Type 0
Own left right a es = Each (λ e. entry_area left right e ≡ a) es

-- RULES 6.9, 18: none of area a's entries is missing
abbrev pub Present : ℕ → (ℕ → ℕ) → (ℕ → ℕ) → ℕ → List Entry → Type 0
Present n left right a es = (e : Entry) → Named n e → entry_area left right e ≡ a → listed_in e es ≡ true

-- es are area a's entries, of the lines 1 to n with these left and right areas
pub record Listed (n : ℕ) (left right : ℕ → ℕ) (a : ℕ) (es : List Entry) : Type 0 where
  pub known : Known n es
  pub once : NoRepeat es
  pub own : Own left right a es
  pub present : Present n left right a es
