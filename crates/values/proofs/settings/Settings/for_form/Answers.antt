-- `Settings::for_form` meets its contract, form by form. Assumes nothing.
use Rattle.format.specs.Choice.{settings_for}
use Rattle.values.proofs.settings.Settings.for_form.Goals as goal

pub returns-in-Text : goal.returns-in-Text
unfolding settings_for
returns-in-Text c = cc

pub returns-in-Compact : goal.returns-in-Compact
unfolding settings_for
returns-in-Compact c = cc

pub returns-in-Extended : goal.returns-in-Extended
unfolding settings_for
returns-in-Extended c = cc
