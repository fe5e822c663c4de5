-- `whole_length` meets its contract: the definition, computed for each kind. Assumes nothing.
use Rattle.format.specs.Fields.{width, widths}
use Rattle.format.specs.Text.{layout, text_length}
use Rattle.text.proofs.lengths.whole_length.Goals as goal

pub returns-in-Date : goal.returns-in-Date
unfolding text_length layout widths width
returns-in-Date c = rw c.in-Date.is

pub returns-in-DateTz : goal.returns-in-DateTz
unfolding text_length layout widths width
returns-in-DateTz c = rw c.in-DateTz.is

pub returns-in-Time : goal.returns-in-Time
unfolding text_length layout widths width
returns-in-Time c = rw c.in-Time.is

pub returns-in-TimeTz : goal.returns-in-TimeTz
unfolding text_length layout widths width
returns-in-TimeTz c = rw c.in-TimeTz.is

pub returns-in-Datetime : goal.returns-in-Datetime
unfolding text_length layout widths width
returns-in-Datetime c = rw c.in-Datetime.is

pub returns-in-DatetimeTz : goal.returns-in-DatetimeTz
unfolding text_length layout widths width
returns-in-DatetimeTz c = rw c.in-DatetimeTz.is
