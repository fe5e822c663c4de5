-- `Kind::try_from` meets its contract: number by number. Assumes nothing.
use borrow.Author.Tests.{ne_eqb}
use Rattle.values.specs.Meaning.{kind_numbered}
use Rattle.values.proofs.kinds.KindTryFromU32.try_from.Goals as goal

pub returns-in-0 : goal.returns-in-0
unfolding kind_numbered
returns-in-0 c = rw c.in-0.is

pub returns-in-1 : goal.returns-in-1
unfolding kind_numbered
returns-in-1 c = rw c.in-1.is

pub returns-in-2 : goal.returns-in-2
unfolding kind_numbered
returns-in-2 c = rw c.in-2.is

pub returns-in-3 : goal.returns-in-3
unfolding kind_numbered
returns-in-3 c = rw c.in-3.is

pub returns-in-4 : goal.returns-in-4
unfolding kind_numbered
returns-in-4 c = rw c.in-4.is

pub returns-in-5 : goal.returns-in-5
unfolding kind_numbered
returns-in-5 c = rw c.in-5.is

pub returns-in_default : goal.returns-in_default
unfolding kind_numbered
returns-in_default c = rw (ne_eqb _ _ c.in_default.in_default-own.rest.0.0.0.0.0.1, ne_eqb _ _ c.in_default.in_default-own.rest.0.0.0.0.1, ne_eqb _ _ c.in_default.in_default-own.rest.0.0.0.1, ne_eqb _ _ c.in_default.in_default-own.rest.0.0.1, ne_eqb _ _ c.in_default.in_default-own.rest.0.1, ne_eqb _ _ c.in_default.in_default-own.rest.1)
