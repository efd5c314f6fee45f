-- Stages 1 and 2 of a file as lists of rules in the order of RULES 6.1 (RULES 6.3 to 6.5, refusals 1 to 9), and
-- the need. Assumes nothing.
--   records_of file     how many records are judged: those that there are, and no more than there may be
--   stage_one file      refusals 1 and 2
--   stage_two file      refusals 3 to 6, and 8
--   walked_of file      the first broken rule of both, or the counts of a file that keeps them; verdict_in, counts_in: its parts
--   early file room     the rules of both, and refusal 9 for a table of `room` words
--   need_of file         the words that the file needs; 0 for a file refused in stage 1 or 2
use Rattle.std.specs.Prelude.{Bool, true, false, cond, ◌&&◌, List, [], ◌∷◌, ◌++◌, ℕ, ◌+◌, ◌/◌, ◌%◌, ltb, leb, eqb, length, get_or, Result, Ok, Err}
use Rattle.records.specs.View.{record_of}
use Rattle.verdict.specs.Rules.{Verdict, Fine, Rule, Check, check, block, rows, first_broken}
use Rattle.rules.specs.declared.Due.{Due}
use Rattle.rules.specs.declared.Due.TheVariants.{Mesh, Layer, Node, Line, Coordinates, Area, Loop}
use Rattle.rules.specs.Checks.{checks_of}
use Rattle.walk.specs.declared.Counts.{Counts}
use Rattle.verdict.specs.declared.Refusal.{Refusal}
use Rattle.walk.specs.States.{due_of, state_at, counts_at, no_counts}

-- RULES 2.1: at most 6,399,936 records
abbrev pub most_records : ℕ
most_records = 6399936

-- RULES 6.3: no record past the 6,399,936th is looked at
unfoldable pub records_of : List ℕ → ℕ
records_of file = cond (ltb most_records (length file / 74)) most_records (length file / 74)

-- ---- stage 1

-- RULES 6.3: 2 where column 73 is not CR (0D), and 2 where column 74 is not LF (0A)
unfoldable pub end_checks : List ℕ → List Check
end_checks t = check 73 2 (eqb (get_or t 72 0) 13) ∷ check 74 2 (eqb (get_or t 73 0) 10) ∷ []

-- RULES 6.3: 1 for too many records, or else for a length that is 0 or no multiple of 74
unfoldable pub length_checks : ℕ → List Check
length_checks n = check 1 1 (leb 1 (n / 74) && (leb (n / 74) most_records && eqb (n % 74) 0)) ∷ []

-- RULES 6.3: each record's line end; then the length, at record 6,399,937, or else at the record behind the last whole one
unfoldable pub stage_one : List ℕ → List Rule
stage_one file =
    rows (records_of file) (λ k. block 1 (k + 1) (end_checks (record_of file (k + 1))))
    ++ block 1 (records_of file + 1) (length_checks (length file))

-- ---- stage 2

-- RULES 6.4: where a mesh has ended the file may end
abbrev pub may_end : Due → Bool
may_end (Mesh last) = true
may_end (Layer last) = false
may_end (Node layer last) = false
may_end (Line layer last letters) = false
may_end (Coordinates left) = false
may_end (Area layer last) = false
may_end (Loop last count left) = false

-- RULES 6.4: 4 where the file ends and a record is due
unfoldable pub last_checks : Due → List Check
last_checks d = check 1 4 (may_end d) ∷ []

-- RULES 6.4: each record by what is due; then the end of the file, at the record behind the last
unfoldable pub stage_two : List ℕ → List Rule
stage_two file =
    rows (records_of file) (λ k. block 2 (k + 1) (checks_of (due_of (state_at file k)) (record_of file (k + 1))))
    ++ block 2 (records_of file + 1) (last_checks (due_of (state_at file (records_of file))))

-- ---- both

-- the counts, or the refusal
abbrev pub walked_by : Verdict → Counts → Result Counts Refusal
walked_by (Ok _) c = Ok c
walked_by (Err r) c = Err r

abbrev pub verdict_in : Result Counts Refusal → Verdict
verdict_in (Ok c) = Fine
verdict_in (Err r) = Err r

-- RULES 9.1: the counts are 0 if refused
abbrev pub counts_in : Result Counts Refusal → Counts
counts_in (Ok c) = c
counts_in (Err r) = no_counts

unfoldable pub walked_of : List ℕ → Result Counts Refusal
walked_of file = walked_by (first_broken (stage_one file ++ stage_two file)) (counts_at file (records_of file))

-- RULES 9.3: the words that a file needs, and 0 for a file refused in stage 1 or 2
unfoldable pub need_of : List ℕ → ℕ
need_of file = (counts_in (walked_of file)).words

-- ---- refusal 9, judged after stage 2: turn 3 of RULES 6.1

abbrev pub third : ℕ
third = 3

-- RULES 8.2: the words of all layers
unfoldable pub words_of : List ℕ → ℕ
words_of file = (counts_at file (records_of file)).words

-- RULES 6.5: 9 for a table of `room` words that is too short; it names no place
unfoldable pub room_rule : List ℕ → ℕ → List Rule
room_rule file room = block third 0 (check 0 9 (leb (words_of file) room) ∷ [])

-- all rules up to refusal 9
unfoldable pub early : List ℕ → ℕ → List Rule
early file room = (stage_one file ++ stage_two file) ++ room_rule file room
