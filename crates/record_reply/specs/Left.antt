-- What a command leaves: refusal 8, its tagged line alone, or other parts of memory. Assumes nothing.
use Rattle.std.specs.Prelude.{◌≡◌, refl, Bool, true, false, not, cond, List, ℕ, None, Ok, Err}
use Rattle.std.proofs.Math.Path.{ap, sym}
use Rattle.std.proofs.Common.{ap₂, ◌∙◌}
use Rattle.model.specs.Commands.{tag_of, command_of}
use Rattle.model.specs.Memory.{Memory, filled}
use Rattle.model.specs.Lines.{answer, render, render_all}
use Rattle.model.specs.Records.{command}
use Rattle.model.specs.Requests.{Verb as Word}
use Rattle.model.specs.Rules.{accepted}
use Rattle.model.specs.Answering.{verb, is_accepted, reply, answer_lines, no_room}
use Rattle.model.specs.declared.Counts.{Counts}
use Rattle.model.specs.declared.Message.{Message}
use Rattle.model.specs.declared.Session.{Session}
use Rattle.model.specs.declared.Reply.{Reply}
use Rattle.model.specs.declared.Refusal.TheVariants.{NoRoom}
use Rattle.table_messages.specs.Laid.{laid, laid_own}
use Rattle.read_options.specs.declared.Verb.{Verb}
use Rattle.read_commands.specs.Judging.{word_of}
use Rattle.line_answer.specs.Sizes.{Whole}
use Rattle.line_answer.specs.Answered.{left_as, no-room_is, text-refused, refused_left}
use Rattle.record_outcome.specs.Coming.{Lends, Comes, Came, ladder, calm}
use Rattle.record_outcome.specs.Laws.{comes-refused}

-- the counts with so many messages and a queue that ends elsewhere
abbrev pub upto : Counts → ℕ → ℕ → Counts
upto k used end = record { mailboxes = k.mailboxes; messages = used; filled = end }

-- what an answer comes to that was said, or found no room, and ends at `end`
abbrev pub came_by : Bool → ℕ → Counts → Session → Came
came_by fits end k s = cond fits (Ok (calm None (upto k k.messages end) s)) (Err NoRoom)

module _ (m : Memory) (ws : List ℕ) (k : Counts) (s : Session) (q t : List ℕ) (lent : Lends m ws k s q) where
  -- what was written to the queue as it is lent was written to memory's
  pub of_memory : {x q' : List ℕ} {b : Bool} {e : ℕ} → Whole q k.filled x q' b e → Whole m.queue (filled m) x q' b e
  of_memory w = rw (lent.queue, lent.counts) w

  -- refusal 8
  pub comes-roomless : no_room m t ≡ true → (r : Came) → r ≡ Err NoRoom → Comes m (ladder m (command t)) r ws ws q
  comes-roomless n r e = comes-refused m ws k s q lent NoRoom (ladder m (command t)) r (rw n) e

  -- a command that is done
  pub comes_left : no_room m t ≡ false → (es : List Message) (used : ℕ) (s' : Session) (ws' q' : List ℕ) (end : ℕ)
      → (accepted m (command t)).after ≡ left_as m es used s' q' end → ws' ≡ laid ws es
      → (r : Came) → r ≡ Ok (calm None (upto k used end) s') → Comes m (ladder m (command t)) r ws ws' q'
  unfolding accepted
  comes_left n es used s' ws' q' end a w r e =
      rw (n, e) (record {
        answer = refl;
        rows = sym (ap (λ (j : Memory). j.rows) a);
        words = w ∙ sym (ap (λ (j : Memory). laid ws j.entries) a);
        counts = ap (λ (c : Counts). upto c used end) (sym lent.counts) ∙ sym (ap (λ (j : Memory). j.counts) a);
        session = sym (ap (λ (j : Memory). j.session) a);
        queue = sym (ap (λ (j : Memory). j.queue) a);
      })

  -- the words stay where the entries do
  pub same-words : ws ≡ laid ws m.entries
  same-words = laid_own ws ∙ ap (laid ws) (sym lent.entries)

  -- ---- the tagged line of a command that is not accepted
  module _ (v : Verb) (a : Reply) (is : word_of v ≡ verb (command_of t)) (says : a ≡ reply m t) (not_so : is_accepted a ≡ false) where
    line_is : render (answer (tag_of t) (word_of v) a) ≡ render_all (answer_lines m t)
    line_is =
        ap (λ (w : Word). render (answer (tag_of t) w a)) is
        ∙ (ap (λ (b : Reply). render (answer (tag_of t) (verb (command_of t)) b)) says ∙ text-refused m t (ap is_accepted (sym says) ∙ not_so))

    pub line_comes : {q' : List ℕ} {b : Bool} {end : ℕ} → Whole q k.filled (render (answer (tag_of t) (word_of v) a)) q' b end
        → (r : Came) → r ≡ came_by b end k s → Comes m (ladder m (command t)) r ws ws q'
    line_comes {q'} {b} {end} w r e = go b refl
      where
        go : (f : Bool) → b ≡ f → Comes m (ladder m (command t)) r ws ws q'
        go true f =
            comes_left (no-room_is m t line_is (of_memory w) ∙ ap not f) m.entries k.messages s ws q' end
            (refused_left m t line_is (of_memory w) f (ap is_accepted (sym says) ∙ not_so) ∙ ap₂ (λ (c : Counts) (o : Session). left_as m m.entries c.messages o q' end) lent.counts lent.session) same-words r (e ∙ rw f)
        go false f =
            let o : q' ≡ q = w.queue ∙ rw f in
            rw o (comes-roomless (no-room_is m t line_is (of_memory w) ∙ ap not f) r (e ∙ rw f))
