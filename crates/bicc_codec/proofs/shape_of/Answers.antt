use mathlib.Core.Path.{sym, ◌∙◌}
use mathlib.Core.Logic.{inl, inr}
use native.Mathlib.Omega.{arith}
use Rattle.bicc.proofs.Types.{four-refused, others-shared, together, apart}
use Rattle.bicc_codec.proofs.shape_of.Goals as goal

pub returns-then-kind-lt-BLO : goal.returns-then-kind-lt-BLO
returns-then-kind-lt-BLO c = c.shape_of.ensures ∙ sym (others-shared _ (apart c.args.kind (inl (omega arith))))

pub returns-then-kind-gt-UBA : goal.returns-then-kind-gt-UBA
returns-then-kind-gt-UBA c = c.shape_of-then-kind-gt-UBA.ensures ∙ sym (others-shared _ (apart c.args.kind (inr (omega arith))))

pub returns : goal.returns
returns c = sym (four-refused _ (together c.args.kind (omega arith) (omega arith)))
