-- Manual over plan. (02, request 6.) "Maintenance nights have a second, manual schedule. Given both, an instant and a channel, hand back the stamp of the correction
-- that holds, as a part of whichever of the two lent files it stands in".
--
--   Source          one of the two files: the plan, or the manual schedule
--   of_two x p m    of the plan p and the manual schedule m the one that x names; also of what else there is one of for each file
--   Part            a part of one of them: which, where it starts in it, and how many octets it has
--   stamp_in x r    the stamp of the record r of the file x
--   nothing         an empty part of the plan, its first
--   chosen h k      the part, from what holds in the plan and what holds in the manual schedule
--   chosen_of a b   the same from the answers to both questions of request 5
--   handed_back f p m t c the part of the plan p or the manual schedule m that the instant t and the channel c give
use Rattle.std.specs.Prelude.{ℕ, List, ℤ}
use Rattle.std.specs.Int.Signed.{le_z}
use Rattle.format.specs.Words.{pick, Outcome, accepted, refused}
use Rattle.card.specs.Header.{RecordForm}
use Rattle.card.specs.Records.{Record}
use Rattle.card.specs.Question.{Held, none_yet, holds, Asked, question}

pub data Source : Type 0 where
  plan : Source
  manual : Source

abbrev pub of_two : {A : Type 0} → Source → A → A → A
of_two plan p m = p
of_two manual p m = m

pub record Part : Type 0 where
  pub source : Source
  -- within that file
  pub start : ℕ
  pub size : ℕ

-- of a record as an answer has it, whose start is one within the file
abbrev pub stamp_in : Source → Record → Part
stamp_in x r = record { source = x; start = r.start; size = r.size }

abbrev pub nothing : Part
nothing = record { source = plan; start = 0; size = 0 }

-- "the later instant, and the manual one at equality; if only one holds, that one. If neither holds a correction .. an empty part of the plan comes back"
abbrev pub chosen : Held → Held → Part
chosen (holds r) (holds q) = pick (le_z r.instant q.instant) (stamp_in manual q) (stamp_in plan r)
chosen (holds r) none_yet = stamp_in plan r
chosen none_yet (holds q) = stamp_in manual q
chosen none_yet none_yet = nothing

-- "or either question of request 5 is refused"
abbrev pub chosen_of : Outcome Asked → Outcome Asked → Part
chosen_of (accepted a) (accepted b) = chosen a.held b.held
chosen_of (accepted a) (refused n) = nothing
chosen_of (refused n) (accepted b) = nothing
chosen_of (refused n) (refused k) = nothing

unfoldable pub handed_back : RecordForm → List ℕ → List ℕ → ℤ → ℕ → Part
handed_back f p m t c = chosen_of (question f p t c) (question f m t c)
