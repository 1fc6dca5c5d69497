-- What is written reads back as it was given, and what is read writes back to
-- the same octets but for the spare bits, 0.
use Prim.Native.Nat.{ℕ, ◌≤◌}
use mathlib.Core.Path.{◌≡◌, refl, sym, ◌∙◌, ap}
use mathlib.Core.List.{List}
use lib.ListN.{length, take, length-set}
use Rattle.octets.specs.Octet.{AllOctets}
use Rattle.octets.specs.Answer.{accepted}
use Rattle.octets.specs.Filled.{filled, leaving}
use Rattle.number.specs.declared.Number.{Number}
use Rattle.number.specs.Read.{read_number_of}
use Rattle.dialling.specs.Write.{write_number_of}
use Rattle.number.specs.WellFormed.{spareless}
use Rattle.octets.proofs.Filled.{sets-filled, take-filled}
use Rattle.dialling.proofs.Writing.{write_done}
use Rattle.number.proofs.ReadExactly.{read-number-exactly}
use Rattle.dialling.proofs.WriteExactly.{write-number-exactly, well-formed-written}

-- the n octets that were written are read as the values and the signals that were given
pub written-reads-back : (nature plan internal : ℕ) (signals out : List ℕ) (n : ℕ) (left buffer : List ℕ) →
    write_number_of nature plan internal signals out ≡ leaving (accepted n) left →
    length signals ≤ length buffer →
    read_number_of (take n left) buffer
    ≡ leaving (accepted (record { nature = nature; plan = plan; internal = internal; count = length signals })) (filled signals buffer)
written-reads-back nature plan internal signals out n left buffer e room =
    let w = (write-number-exactly nature plan internal signals out n left).0 e in
    let octets : take n left ≡ w.0 = ap (take n) w.4 ∙ take-filled w.0 out n w.2 in
    ap (λ (contents : List ℕ). read_number_of contents buffer) octets
    ∙ (read-number-exactly w.0 buffer _ (filled signals buffer)).1 (signals, w.1.number, room, refl)

-- the values and the signals that were read are written as the octets that
-- were given, with spare bits 0
pub read-writes-back : (contents buffer : List ℕ) (number : Number) (left out : List ℕ) →
    AllOctets contents →
    read_number_of contents buffer ≡ leaving (accepted number) left →
    length contents ≤ length out →
    write_number_of number.nature number.plan number.internal (take number.count left) out
    ≡ leaving (accepted (length contents)) (filled (spareless contents) out)
read-writes-back contents buffer number left out o e room =
    let r = (read-number-exactly contents buffer number left).0 e in
    let signals : take number.count left ≡ r.0 = ap (take number.count) r.3 ∙ take-filled r.0 buffer number.count r.1.count in
    ap (λ (s : List ℕ). write_number_of number.nature number.plan number.internal s out) signals
    ∙ (let h : length (spareless contents) ≤ length out = simp length-set room in
    sym (write_done number.nature number.plan number.internal r.0 out (length contents) (spareless contents) (well-formed-written contents number r.0 o r.1) (length contents) (filled (spareless contents) out) h refl (sym (sets-filled (spareless contents) out h))))
