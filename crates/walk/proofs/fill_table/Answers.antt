-- `walk::fill_table` meets its contract: a refusal returns before the table is touched, and behind it the table has room. Assumes nothing.
use lib.ListN.{length}
use borrow.Author.Rules.{rules}
use Rattle.std.proofs.lemmas.Result.{err_from_is_err_and}
use Rattle.walk.proofs.Tabling.{early_broken, tabled_broken, all_counted, short, tabled_short, long_enough, tabled_long, room_enough, untouched, table_stands}
use Rattle.walk.proofs.fill_table.Goals as goal

pub returns-in_err-counts : goal.returns-in_err-counts
returns-in_err-counts c =
    let w = c.in_err-counts.ensures in
    let room = length c.args.table.now in
    let p = err_from_is_err_and c.from_residual.result c.from_residual.ensures.1 in
    (rw (p.1, p.2) (tabled_broken _ w room), untouched _ _ (early_broken _ w room))

pub returns-then-table-counts : goal.returns-then-table-counts
returns-then-table-counts c =
    let w = c.in_ok-counts.ensures in
    let room = length c.args.table.now in
    (tabled_short _ w room (search rules), untouched _ _ (short _ w room (search rules)))

pub fill-requires : goal.fill-requires
fill-requires c =
    let w = c.in_ok-counts.ensures in
    record { total_value = all_counted _ w; areas_in_bounds = room_enough _ w _ (search rules) }

pub returns : goal.returns
returns c =
    let w = c.in_ok-counts.ensures in
    let room = length c.args.table.now in
    (tabled_long _ w room (search rules), table_stands _ _ (long_enough _ w room (search rules)) c.fill.ensures)
