-- The rules up to refusal 9 stand in the order of RULES 6.1, and none of them has a number above 9. Assumes nothing.
use mathlib.Core.Bool.{Bool, true}
use mathlib.Core.List.{List, [], ◌∷◌, ◌++◌}
use mathlib.Core.Logic.{⊎_elim}
use mathlib.Core.Path.{◌≡◌, refl, sym, ◌∙◌}
use Prim.Native.Nat.{ℕ, ◌+◌}
use native.Mathlib.Omega.{arith}
use lib.Dec.{leb, lit≤, lit<}
use lib.ListN.{length}
use Rattle.verdict.specs.Rules.{Check, check, block, rows}
use Rattle.verdict.specs.Order.{Sorted, rising}
use Rattle.verdict.proofs.Numbers.{up_to8, up_to9, given_wider, numbered, Numbered, block_numbered, append_numbered, rows_numbered}
use Rattle.verdict.proofs.Orders.{UpTo, Of, turn_sorted, turn_up, in_append, sorted_append, earlier_row, block_in, block_sorted, rows_in, rows_sorted}
use Rattle.records.specs.View.{record_of}
use Rattle.rules.specs.declared.Due.{Due}
use Rattle.rules.specs.Checks.{checks_of}
use Rattle.rules.proofs.Rising.{checks_rising, checks_numbered}
use Rattle.walk.specs.States.{due_of, state_at}
use Rattle.walk.specs.Stages.{records_of, end_checks, length_checks, stage_one, last_checks, stage_two, third, words_of, room_rule, early}

-- ---- records 1 to n by the checks g, then record n + 1 by the checks cs, at stage s

module _ (s : ℕ) (g : ℕ → List Check) (n : ℕ) (cs : List Check) where
  pub staged_sorted : ((k : ℕ) → rising (g k) ≡ true) → rising cs ≡ true → Sorted (rows n (λ k. block s (k + 1) (g k)) ++ block s (n + 1) cs)
  staged_sorted h q =
      sorted_append (rows n (λ k. block s (k + 1) (g k))) (block s (n + 1) cs) (rows_sorted s g n h) (block_sorted s (n + 1) cs q)
      (λ a b i j. let p = rows_in s g n a i in let r = block_in s (n + 1) cs b j in earlier_row a b (p.0 ∙ sym r.0) (omega (arith, p.1, r.1)))

  pub staged_of : Of s (rows n (λ k. block s (k + 1) (g k)) ++ block s (n + 1) cs)
  staged_of a i =
      ⊎_elim (λ j. (rows_in s g n a j).0) (λ j. (block_in s (n + 1) cs a j).0)
      (in_append a (rows n (λ k. block s (k + 1) (g k))) (block s (n + 1) cs) i)

  pub staged_numbered : (p : ℕ → Bool) → ((k : ℕ) → numbered p (g k) ≡ true)
      → numbered p cs ≡ true → Numbered p (rows n (λ k. block s (k + 1) (g k)) ++ block s (n + 1) cs)
  staged_numbered p f h =
      append_numbered p (rows n (λ k. block s (k + 1) (g k))) (block s (n + 1) cs)
      (rows_numbered p n (λ k. block s (k + 1) (g k)) (λ k. block_numbered p s (k + 1) (g k) (f k)))
      (block_numbered p s (n + 1) cs h)

-- ---- stage 1

end_rising : (t : List ℕ) → rising (end_checks t) ≡ true
unfolding end_checks
end_rising t = refl

length_rising : (n : ℕ) → rising (length_checks n) ≡ true
unfolding length_checks
length_rising n = refl

-- its rules are in order
pub one_sorted : (file : List ℕ) → Sorted (stage_one file)
unfolding stage_one
one_sorted file =
    staged_sorted 1 (λ k. end_checks (record_of file (k + 1))) (records_of file) (length_checks (length file))
    (λ k. end_rising (record_of file (k + 1))) (length_rising (length file))

-- all its rules are of stage 1
pub one_of : (file : List ℕ) → Of 1 (stage_one file)
unfolding stage_one
one_of file = staged_of 1 (λ k. end_checks (record_of file (k + 1))) (records_of file) (length_checks (length file))

-- ---- stage 2

last_rising : (d : Due) → rising (last_checks d) ≡ true
unfolding last_checks
last_rising d = refl

-- its rules are in order
pub two_sorted : (file : List ℕ) → Sorted (stage_two file)
unfolding stage_two
two_sorted file =
    staged_sorted 2 (λ k. checks_of (due_of (state_at file k)) (record_of file (k + 1))) (records_of file) (last_checks (due_of (state_at file (records_of file))))
    (λ k. checks_rising (due_of (state_at file k)) (record_of file (k + 1))) (last_rising (due_of (state_at file (records_of file))))

-- all its rules are of stage 2
pub two_of : (file : List ℕ) → Of 2 (stage_two file)
unfolding stage_two
two_of file = staged_of 2 (λ k. checks_of (due_of (state_at file k)) (record_of file (k + 1))) (records_of file) (last_checks (due_of (state_at file (records_of file))))

-- ---- all rules up to refusal 9

end_numbered : (t : List ℕ) → numbered up_to8 (end_checks t) ≡ true
unfolding end_checks
end_numbered t = refl

length_numbered : (n : ℕ) → numbered up_to8 (length_checks n) ≡ true
unfolding length_checks
length_numbered n = refl

last_numbered : (d : Due) → numbered up_to8 (last_checks d) ≡ true
unfolding last_checks
last_numbered d = refl

one_numbered : (file : List ℕ) → Numbered up_to8 (stage_one file)
unfolding stage_one
one_numbered file =
    staged_numbered 1 (λ k. end_checks (record_of file (k + 1))) (records_of file) (length_checks (length file)) up_to8
    (λ k. end_numbered (record_of file (k + 1))) (length_numbered (length file))

two_numbered : (file : List ℕ) → Numbered up_to8 (stage_two file)
unfolding stage_two
two_numbered file =
    staged_numbered 2 (λ k. checks_of (due_of (state_at file k)) (record_of file (k + 1)))
    (records_of file) (last_checks (due_of (state_at file (records_of file)))) up_to8
    (λ k. checks_numbered (due_of (state_at file k)) (record_of file (k + 1))) (last_numbered (due_of (state_at file (records_of file))))

-- none of stages 1 and 2 has a number above 8, or 7
pub stages_numbered : (file : List ℕ) → Numbered up_to8 (stage_one file ++ stage_two file)
stages_numbered file = append_numbered up_to8 (stage_one file) (stage_two file) (one_numbered file) (two_numbered file)

-- none up to refusal 9 has a number above 9
pub early_numbered : (file : List ℕ) (room : ℕ) → Numbered up_to9 (early file room)
unfolding early room_rule
early_numbered file room =
    append_numbered up_to9 (stage_one file ++ stage_two file) (room_rule file room)
    (λ a i. given_wider 8 9 a.number (lit≤ tt) (stages_numbered file a i))
    (block_numbered up_to9 third 0 (check 0 9 (leb (words_of file) room) ∷ []) refl)

-- they are in order
pub early_sorted : (file : List ℕ) (room : ℕ) → Sorted (early file room)
unfolding early room_rule
early_sorted file room =
    turn_sorted 2 third (stage_one file ++ stage_two file) (room_rule file room) (lit< tt)
    (turn_up 1 2 (stage_one file) (stage_two file) (lit≤ tt) (λ a i. omega (arith, one_of file a i)) (two_of file))
    (λ a i. (block_in third 0 (check 0 9 (leb (words_of file) room) ∷ []) a i).0)
    (turn_sorted 1 2 (stage_one file) (stage_two file) (lit< tt) (λ a i. omega (arith, one_of file a i)) (two_of file) (one_sorted file) (two_sorted file))
    (block_sorted third 0 (check 0 9 (leb (words_of file) room) ∷ []) refl)

-- all are of the third turn or before
pub early_up : (file : List ℕ) (room : ℕ) → UpTo third (early file room)
unfolding early room_rule
early_up file room =
    turn_up 2 third (stage_one file ++ stage_two file) (room_rule file room) (lit≤ tt)
    (turn_up 1 2 (stage_one file) (stage_two file) (lit≤ tt) (λ a i. omega (arith, one_of file a i)) (two_of file))
    (λ a i. (block_in third 0 (check 0 9 (leb (words_of file) room) ∷ []) a i).0)
