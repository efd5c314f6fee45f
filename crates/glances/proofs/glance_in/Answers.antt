-- `glances::glance_in` meets its contract: spaces in front change nothing, and what has more than five
-- bytes in use says no number from 0 to 99999. Assumes nothing.
use native.Mathlib.Omega.{arith}
use lib.Dec.{lit≤}
use lib.ListN.{length}
use Rattle.glances.proofs.AtGlance.{entries, short_is, long_is, glimpse_six, glimpse_other}
use Rattle.fields.proofs.Range.{no_width}
use Rattle.glances.proofs.glance_in.Goals as goal

pub returns-in-len1 : goal.returns-in-len1
unfolding entries
returns-in-len1 c = rw (short_is 4 1 c.args.f.now (omega arith) (lit≤ tt) (lit≤ tt)) c.glance_at.ensures

pub returns-in-len2 : goal.returns-in-len2
unfolding entries
returns-in-len2 c = rw (short_is 3 2 c.args.f.now (omega arith) (lit≤ tt) (lit≤ tt)) c.glance_at-in-len2.ensures

pub returns-in-len3 : goal.returns-in-len3
unfolding entries
returns-in-len3 c = rw (short_is 2 3 c.args.f.now (omega arith) (lit≤ tt) (lit≤ tt)) c.glance_at-in-len3.ensures

pub returns-in-len4 : goal.returns-in-len4
unfolding entries
returns-in-len4 c = rw (short_is 1 4 c.args.f.now (omega arith) (lit≤ tt) (lit≤ tt)) c.glance_at-in-len4.ensures

pub returns-in-len5 : goal.returns-in-len5
unfolding entries
returns-in-len5 c = rw (short_is 0 5 c.args.f.now (omega arith) (lit≤ tt) (lit≤ tt)) c.glance_at-in-len5.ensures

pub returns-in-32 : goal.returns-in-32
unfolding entries
returns-in-32 c = rw (long_is c.args.f.now (omega arith) (omega arith)) c.glance_at-in-32.ensures

pub returns-in_default : goal.returns-in_default
returns-in_default c =
    glimpse_other _ (no_width (length c.args.f.now) (λ e. omega arith) (λ e. omega arith) (λ e. omega arith) (λ e. omega arith) (λ e. omega arith) (λ e. omega arith))

pub returns-in_default-2 : goal.returns-in_default-2
returns-in_default-2 c = glimpse_six _ (omega arith) (λ e. omega arith)

pub returns-in_default-3 : goal.returns-in_default-3
returns-in_default-3 c =
    glimpse_other _ (no_width (length c.args.f.now) (λ e. omega arith) (λ e. omega arith) (λ e. omega arith) (λ e. omega arith) (λ e. omega arith) (λ e. omega arith))
