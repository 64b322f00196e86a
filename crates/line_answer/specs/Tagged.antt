-- The tagged line: its tag, its verb, its text as it is written. Assumes nothing.
use Rattle.std.specs.Prelude.{◌≡◌, refl, true, false, ◌&&◌, List, ◌++◌, ℕ, ◌≤◌, leb, take}
use Rattle.std.proofs.Common.{append_assoc, leb-true}
use Rattle.model.specs.Laws.{and_l, and_r}
use Rattle.model.specs.Text.{octets}
use Rattle.model.specs.Requests.{Verb as Word, notify, esearch, other_verb}
use Rattle.model.specs.Reading.{stands}
use Rattle.model.specs.Commands.{tag_end, tagged, tag_of}
use Rattle.model.specs.Lines.{answer, render, reply_text, crlf, space}
use Rattle.model.specs.declared.Reply.{Reply}
use Rattle.read_options.specs.Heads.{verb_of}
use Rattle.read_commands.specs.Judging.{word_of}

-- the word that a verb stands for
pub word-verb : (w : Word) → word_of (verb_of w) ≡ w
word-verb notify = refl
word-verb esearch = refl
word-verb other_verb = refl

-- ---- the tag
module _ (s : List ℕ) where
  pub tag_short : tagged s ≡ true → tag_end s ≤ 32
  tag_short h = leb-true _ _ (and_r (leb 1 (tag_end s)) (leb (tag_end s) 32) (and_l (leb 1 (tag_end s) && leb (tag_end s) 32) (stands s (tag_end s) " ") h))

  pub tag_none : tagged s ≡ false → octets "*" ≡ tag_of s
  unfolding tag_of
  tag_none h = rw h

  pub tag_some : (n : ℕ) → n ≡ tag_end s → tagged s ≡ true → take n s ≡ tag_of s
  unfolding tag_of
  tag_some n e h = rw (e, h)

-- ---- the text
four : (a b c d : List ℕ) → ((a ++ b) ++ c) ++ d ≡ (a ++ (b ++ c)) ++ d
four a b c d = simp append_assoc

pub answer-text : (tag : List ℕ) (w : Word) (r : Reply) → ((tag ++ space) ++ reply_text w r) ++ crlf ≡ render (answer tag w r)
unfolding render
answer-text tag w r = four tag space (reply_text w r) crlf
