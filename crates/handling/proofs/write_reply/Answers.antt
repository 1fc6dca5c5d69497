use mathlib.Core.Path.{◌≡◌, refl, ◌∙◌}
use Prim.Native.Nat.{◌+◌, ◌-◌}
use native.Mathlib.Omega.{arith}
use Rattle.hub.specs.Replies.{reply_of}
use Rattle.handling.proofs.write_reply.Goals as goal

pub returns : goal.returns
unfolding reply_of
returns c =
    let a = c.args.ask in
    let q : a.circuit + a.range + 1 - a.circuit ≡ a.range + 1 = omega arith in
    c.reply.ensures ∙ rw (c.status_of-status.ensures, q) refl
