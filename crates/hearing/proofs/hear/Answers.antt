use Rattle.std.specs.Prelude.{ℕ, List, ◌≡◌, refl, Result, Ok, Err, is_ok, replicate}
use Rattle.octets.specs.Told.{told}
use Rattle.octets.specs.declared.Refusal.{Refusal}
use Rattle.rights.specs.Tables.{tables}
use Rattle.hub.specs.Acts.{after, act_of}
use Rattle.day.specs.Hub.{Rows, heard_as, heard_of}
use Rattle.day.proofs.Told.{heard-taken, heard-refused}
use Rattle.hearing.proofs.hear.Goals as goal

heard-told : (owners : List ℕ) (rows : Rows) (sender : ℕ) (m : List ℕ) (r : Result ℕ Refusal) {states answer : List ℕ} → after (told r) states answer ≡ act_of (tables rows owners owners) sender m (replicate 268 0) → heard_as states (is_ok r) ≡ heard_of owners rows sender m
heard-told owners rows sender m (Ok n) e = heard-taken owners rows sender m e refl
heard-told owners rows sender m (Err why) e = heard-refused owners rows sender m e refl

pub returns : goal.returns
returns c = rw c.is_ok.ensures.value (heard-told _ _ _ _ _ c.act.ensures)
