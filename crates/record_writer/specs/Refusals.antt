-- The numbers of the writer's answers (RULES 9.5). Assumes nothing.
--   error_number e    the refusal that the error e is: 21 for a short buffer, 20 for what does not fit
--   answer_number a   0 where the record is written, and else the refusal
use Rattle.std.specs.Prelude.{ℕ, Result, Ok, Err}
use Rattle.record_writer.specs.declared.WriteError.{WriteError}
use Rattle.record_writer.specs.declared.WriteError.TheVariants.{Short, Unfit}

abbrev pub error_number : WriteError → ℕ
error_number Short = 21
error_number Unfit = 20

abbrev pub answer_number : Result (Unit {0}) WriteError → ℕ
answer_number (Ok x) = 0
answer_number (Err e) = error_number e
