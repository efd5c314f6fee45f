-- The checks of stage 2 on one record, by column and number, kind by kind: the page to hold against the layouts of RULES 4.
-- What a record holds decides which of them are kept and never which there are; antt computes the lists. Assumes nothing.
use mathlib.Core.List.{List, [], ◌∷◌, ◌++◌, map}
use mathlib.Core.Path.{◌≡◌, refl}
use Prim.Native.Nat.{ℕ}
use Rattle.records.specs.Layout.{layout_of}
use Rattle.verdict.specs.Order.{spot_of}
use Rattle.rules.specs.declared.Due.TheVariants.{Mesh, Layer, Node, Line, Coordinates, Area, Loop}
use Rattle.asks.specs.Asks.{from, mesh_asks, layer_asks, node_asks, line_asks, coordinate_asks, area_asks, loop_asks}
use Rattle.rules.specs.Checks.{asks_of, asked_of, form_checks, value_checks, along, checks_of}

-- the refusals ns at column c
abbrev pub at_column : ℕ → List ℕ → List (List ℕ)
at_column c [] = []
at_column c (n ∷ ns) = (c ∷ n ∷ []) ∷ at_column c ns

-- type letters; a number whose value is not asked; one that has to be permitted; one that has to be in step; one that has to be both;
-- a name or blanks
abbrev pub letters : List (List ℕ)
letters = at_column 1 (3 ∷ [])

abbrev pub formed : ℕ → List (List ℕ)
formed c = at_column c (5 ∷ [])

abbrev pub permitted : ℕ → List (List ℕ)
permitted c = at_column c (5 ∷ 6 ∷ [])

abbrev pub in_step : ℕ → List (List ℕ)
in_step c = at_column c (5 ∷ 8 ∷ [])

abbrev pub five_six_eight : ℕ → List (List ℕ)
five_six_eight c = at_column c (5 ∷ 6 ∷ 8 ∷ [])

-- all of these
abbrev pub page : List (List (List ℕ)) → List (List ℕ)
page [] = []
page (p ∷ ps) = p ++ page ps

pub mesh_places : (last : ℕ) (t : List ℕ) → map spot_of (checks_of (Mesh last) t) ≡ page (
    letters ∷ five_six_eight 3 ∷ formed 9 ∷ permitted 29 ∷ permitted 32 ∷ permitted 37 ∷ permitted 42 ∷ permitted 47 ∷ permitted 52 ∷ formed 57 ∷ [])
unfolding layout_of mesh_asks asks_of asked_of form_checks value_checks along checks_of
mesh_places last t = refl

pub layer_places : (last : ℕ) (t : List ℕ) → map spot_of (checks_of (Layer last) t) ≡ page (
    letters ∷ five_six_eight 3 ∷ permitted 5 ∷ permitted 10 ∷ permitted 15 ∷ permitted 20
    ∷ permitted 25 ∷ formed 30 ∷ permitted 31 ∷ formed 35 ∷ permitted 36 ∷ formed 40 ∷ [])
unfolding layout_of layer_asks asks_of asked_of form_checks value_checks along checks_of
layer_places last t = refl

pub node_places : (layer last : ℕ) (t : List ℕ) → map spot_of (checks_of (Node layer last) t) ≡ page (
    letters ∷ five_six_eight 3 ∷ permitted 5 ∷ in_step 7 ∷ permitted 12 ∷ permitted 17 ∷ permitted 22 ∷ permitted 24
    ∷ permitted 26 ∷ permitted 31 ∷ permitted 36 ∷ permitted 41 ∷ permitted 46 ∷ permitted 51 ∷ permitted 56 ∷ permitted 61 ∷ permitted 66
    ∷ formed 71 ∷ [])
unfolding layout_of from node_asks asks_of asked_of form_checks value_checks along checks_of
node_places layer last t = refl

pub line_places : (layer last own : ℕ) (t : List ℕ) → map spot_of (checks_of (Line layer last own) t) ≡ page (
    letters ∷ five_six_eight 3 ∷ permitted 5 ∷ in_step 7 ∷ permitted 12 ∷ formed 18 ∷ permitted 23 ∷ formed 24 ∷ permitted 29
    ∷ permitted 30 ∷ permitted 35 ∷ permitted 40 ∷ permitted 45 ∷ permitted 50 ∷ permitted 56 ∷ permitted 58 ∷ formed 61 ∷ [])
unfolding layout_of line_asks asks_of asked_of form_checks value_checks along checks_of
line_places layer last own t = refl

pub coordinates_places : (left : ℕ) (t : List ℕ) → map spot_of (checks_of (Coordinates left) t) ≡ page (
    permitted 1 ∷ permitted 6 ∷ permitted 11 ∷ permitted 16 ∷ permitted 21 ∷ permitted 26 ∷ permitted 31 ∷ permitted 36 ∷ permitted 41
    ∷ permitted 46 ∷ permitted 51 ∷ permitted 56 ∷ permitted 61 ∷ permitted 66 ∷ formed 71 ∷ [])
unfolding layout_of from coordinate_asks asks_of asked_of form_checks value_checks along checks_of
coordinates_places left t = refl

pub area_places : (layer last : ℕ) (t : List ℕ) → map spot_of (checks_of (Area layer last) t) ≡ page (
    letters ∷ five_six_eight 3 ∷ permitted 5 ∷ in_step 10 ∷ permitted 15 ∷ permitted 20 ∷ permitted 25 ∷ permitted 29 ∷ formed 33 ∷ [])
unfolding layout_of area_asks asks_of asked_of form_checks value_checks along checks_of
area_places layer last t = refl

pub loop_places : (last count left : ℕ) (t : List ℕ) → map spot_of (checks_of (Loop last count left) t) ≡ page (
    in_step 1 ∷ five_six_eight 6 ∷ permitted 10 ∷ permitted 15 ∷ permitted 20 ∷ permitted 25 ∷ permitted 30 ∷ permitted 35 ∷ permitted 40 ∷ permitted 45
    ∷ permitted 50 ∷ permitted 55 ∷ permitted 60 ∷ permitted 65 ∷ formed 70 ∷ [])
unfolding layout_of from loop_asks asks_of asked_of form_checks value_checks along checks_of
loop_places last count left t = refl
