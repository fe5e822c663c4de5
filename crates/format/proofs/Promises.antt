-- Which promises have one answer: those that are an equation with the answer, or with what the answer means where different answers mean
-- different things. Assumes nothing.
use mathlib.Core.Path.{◌≡◌, sym, ◌∙◌, ap}
use Rattle.format.specs.Promises.{OneAnswer}

pub equal_one : {A : Type 0} (x : A) → OneAnswer (λ (r : A). r ≡ x)
equal_one x r r' p q = p ∙ sym q

-- a meaning that can be undone: a clause for each case, where case by case against each other would be their square
pub meaning_one : {A B : Type 0} (mean : A → B) (undo : B → A) → ((a : A) → undo (mean a) ≡ a) → (x : B) → OneAnswer (λ (r : A). mean r ≡ x)
meaning_one mean undo back x r r' p q = sym (back r) ∙ ap undo (p ∙ sym q) ∙ back r'
