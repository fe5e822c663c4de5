-- `put_parts` meets its contract: the eight numbers of each form. Assumes nothing.
use Rattle.boundary.proofs.handing.put_parts.Goals as goal

pub returns-in-Text : goal.returns-in-Text
returns-in-Text c = rw c.in-Text.is c.put_numbers.ensures

pub returns-in-Compact : goal.returns-in-Compact
returns-in-Compact c = rw c.in-Compact.is c.put_numbers-in-Compact.ensures

pub returns-in-Extended : goal.returns-in-Extended
returns-in-Extended c = rw c.in-Extended.is c.put_numbers-in-Extended.ensures
