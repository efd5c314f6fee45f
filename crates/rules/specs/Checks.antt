-- The checks of stage 2 on one record, in the order of columns (RULES 6.4: 3, 5, 6 and 8): along its layout, each field's
-- form and then what is asked of its value. Assumes nothing.
--   kind_of d         the kind of record that is due
--   asked_of d t i ns what is asked of number i of the record t that is due as d; ns are the numbers read so far
--   form_checks f t  the checks of field f's form in the record t
--   along a L i ns t the checks along the layout L, behind i numbers, which are ns; a says what is asked of a number
--   checks_of d t    the checks of the record t, due as d
use Rattle.std.specs.Prelude.{Bool, not, List, [], ◌∷◌, ◌++◌, ℕ, suc, eqb, ℤ, set, get_or}
use Rattle.fields.specs.Number.{number_at}
use Rattle.fields.specs.Answer.{value_of}
use Rattle.codes.specs.Code.{code_value}
use Rattle.records.specs.declared.Kind.{Kind}
use Rattle.records.specs.declared.Kind.TheVariants as kind
use Rattle.records.specs.declared.Field.{Field}
use Rattle.records.specs.declared.Field.TheVariants.{Letters, Number, Code, Name, Blank}
use Rattle.records.specs.Layout.{layout_of}
use Rattle.records.specs.Reading.{letters_in, code_in, fault_of, zeros}
use Rattle.verdict.specs.Rules.{Check, check}
use Rattle.asks.specs.Asks.{Ask, permitted, in_step, mesh_asks, layer_asks, node_asks, line_asks, coordinate_asks, area_asks, loop_asks}
use Rattle.rules.specs.declared.Due.{Due}
use Rattle.rules.specs.declared.Due.TheVariants.{Mesh, Layer, Node, Line, Coordinates, Area, Loop}

abbrev pub kind_of : Due → Kind
kind_of (Mesh last) = kind.Mesh
kind_of (Layer last) = kind.Layer
kind_of (Node layer last) = kind.Node
kind_of (Line layer last letters) = kind.Line
kind_of (Coordinates left) = kind.Coordinates
kind_of (Area layer last) = kind.Area
kind_of (Loop last count left) = kind.Loop

-- for each number of a record what is asked of it; own are the record's own letters, and an L has those of its layer's H
unfoldable pub asks_of : Due → ℕ → List ℤ → List (List Ask)
asks_of (Mesh last) own ns = mesh_asks last ns
asks_of (Layer last) own ns = layer_asks last own ns
asks_of (Node layer last) own ns = node_asks layer last ns
asks_of (Line layer last letters) own ns = line_asks layer last letters ns
asks_of (Coordinates left) own ns = coordinate_asks left ns
asks_of (Area layer last) own ns = area_asks layer last ns
asks_of (Loop last count left) own ns = loop_asks last count left ns

-- what is asked of number i
unfoldable pub asked_of : Due → List ℕ → ℕ → List ℤ → List Ask
asked_of d t i ns = get_or (asks_of d (letters_in (kind_of d) t) ns) i []

-- the field gives no refusal n
abbrev pub free : ℕ → Field → List ℕ → Bool
free n f t = not (eqb (fault_of f t) n)

-- RULES 6.4: 3 for letters that are not those due, at column 1; 5 for an ill-formed field, at its start
unfoldable pub form_checks : Field → List ℕ → List Check
form_checks (Letters a b c) t = check 1 3 (free 3 (Letters a b c) t) ∷ []
form_checks (Number c w) t = check c 5 (free 5 (Number c w) t) ∷ []
form_checks (Code c w) t = check c 5 (free 5 (Code c w) t) ∷ []
form_checks (Name c w) t = check c 5 (free 5 (Name c w) t) ∷ []
form_checks (Blank c w) t = check c 5 (free 5 (Blank c w) t) ∷ []

-- RULES 5: 6 for a value that is not permitted, 8 for one that is out of step; both at the field's start
unfoldable pub value_checks : ℕ → List Ask → List Check
value_checks c [] = []
value_checks c (permitted b ∷ l) = check c 6 b ∷ value_checks c l
value_checks c (in_step b ∷ l) = check c 8 b ∷ value_checks c l

-- the numbers, with number i as the field says
abbrev pub with_number : List ℤ → ℕ → List ℕ → ℕ → ℕ → List ℤ
with_number ns i t c w = set ns i (value_of (number_at t c w))

-- RULES 5.7: of a code its value is asked, whatever its mark
abbrev pub with_code : List ℤ → ℕ → List ℕ → ℕ → ℕ → List ℤ
with_code ns i t c w = set ns i (code_value (code_in t c w))

-- RULES 6.4: field by field from the left, its form and then its value
unfoldable pub along : (ℕ → List ℤ → List Ask) → List Field → ℕ → List ℤ → List ℕ → List Check
along a [] i ns t = []
along a (Letters x y z ∷ L) i ns t = form_checks (Letters x y z) t ++ along a L i ns t
along a (Number c w ∷ L) i ns t =
    form_checks (Number c w) t
    ++ (value_checks c (a i (with_number ns i t c w)) ++ along a L (suc i) (with_number ns i t c w) t)
along a (Code c w ∷ L) i ns t =
    form_checks (Code c w) t
    ++ (value_checks c (a i (with_code ns i t c w)) ++ along a L (suc i) (with_code ns i t c w) t)
along a (Name c w ∷ L) i ns t = form_checks (Name c w) t ++ along a L i ns t
along a (Blank c w ∷ L) i ns t = form_checks (Blank c w) t ++ along a L i ns t

unfoldable pub checks_of : Due → List ℕ → List Check
checks_of d t = along (asked_of d t) (layout_of (kind_of d)) 0 zeros t
