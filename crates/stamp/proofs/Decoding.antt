-- A stamp under its kind: what is read has no parts but the kind's, so nothing is lost where only these are kept. Assumes nothing.
use mathlib.Core.Path.{◌≡◌, sym}
use mathlib.Core.List.{List}
use Prim.Native.Nat.{ℕ}
use Rattle.format.specs.Words.{accepted}
use Rattle.format.specs.Octets.{Octets}
use Rattle.format.specs.Values as format
use Rattle.format.specs.Reading.{read}
use Rattle.format.specs.Keeping.{owned}
use Rattle.format.proofs.Kept.{read_owned}

pub under_kind : (k : format.Kind) (s : List ℕ) (f : format.Form) (v : format.Value) → Octets s
    → accepted (record { kind = k; form = f; value = v }) ≡ read k s → accepted (record { kind = k; form = f; value = owned k v }) ≡ read k s
under_kind k s f v o e = rw (read_owned k s (record { kind = k; form = f; value = v }) o (sym e)) e
