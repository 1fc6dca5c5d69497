use Rattle.std.specs.Prelude.{Some}
use Rattle.std.proofs.Common.{◌≡◌, ℕ, ◌+◌, ◌≤◌, List, length, take, drop, refl, sym, ◌∙◌, ap, append_assoc, arith}
use Rattle.std.proofs.lemmas.List.Edits.{sets, sets-eq, paste_all}
use Rattle.std.proofs.lemmas.Slice.{put_mid-paste}
use borrow.Rule.Slice.PartMut.{put_mid}
use Rattle.octets.proofs.Tests.{tests}
use Rattle.words.specs.Into.{entry}
use Rattle.fields.specs.Placed.{word_into}
use Rattle.fields.proofs.Typed.{word_room}
use Rattle.typing.proofs.keep_word.Goals as goal

-- a run of octets put by a copy is put as by stores
copied : (buffer word put : List ℕ) (at k : ℕ) → put ≡ word → length word ≡ k → at + length word ≤ length buffer → put_mid at k buffer put ≡ sets buffer at word
copied buffer word put at k e n h =
    put_mid-paste at k buffer put word (length word) e n refl ∙ paste_all buffer at word (length word) refl ∙ sym (sets-eq word buffer at h ∙ append_assoc (take at buffer) word (drop (at + length word) buffer))

pub returns-then-word-gt-TYPED_MOST : goal.returns-then-word-gt-TYPED_MOST
unfolding word_into
returns-then-word-gt-TYPED_MOST c = search tests

pub returns-then-scratch-next : goal.returns-then-scratch-next
unfolding word_into
returns-then-scratch-next c = search tests

pub returns-then-scratch-next-2 : goal.returns-then-scratch-next-2
unfolding word_into
returns-then-scratch-next-2 c = search tests

pub returns : goal.returns
returns c =
    let a = c.args in
    ap (entry (Some (length a.word.now))) (copied a.scratch.now a.word.now c.copy_from_slice.new.self a.next _ c.copy_from_slice.ensures.after (omega arith) (omega arith))
    ∙ word_room a.word.now a.scratch.now a.next (omega arith) (omega arith) (omega arith)
