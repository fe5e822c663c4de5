-- `is_channel` meets its contract: its tests are those of `channel_good`. Assumes nothing.
use borrow.Author.Tests.{le-leb, lt-leb}
use Rattle.card.specs.Step.{channel_good}
use Rattle.schedule.proofs.fields.is_channel.Goals as goal

pub returns-then-channel-lt1 : goal.returns-then-channel-lt1
unfolding channel_good
returns-then-channel-lt1 c = rw (lt-leb _ _ c.if-channel-lt1.true)

pub returns : goal.returns
unfolding channel_good
returns c = rw (le-leb _ _ c.if-channel-lt1.false)
