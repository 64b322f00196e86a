-- What an accepted search comes to, from the memory that is lent and what was said of it. Assumes nothing.
use Rattle.std.specs.Prelude.{◌≡◌, refl, Bool, true, false, not, cond, List, ℕ, None, Ok, ◌-◌, ◌*◌, ◌≤◌, length, take}
use Rattle.std.proofs.Math.Path.{ap, sym}
use Rattle.std.proofs.Common.{ap₂, ◌∙◌, subst, arith, leb-true, length-take-le}
use Rattle.model.specs.Requests.{Command, Search, search}
use Rattle.model.specs.Reading.{Parsed, ok}
use Rattle.model.specs.Commands.{tag_of, command_of}
use Rattle.model.specs.Limits.{limits, command_too_large}
use Rattle.model.specs.Lines.{answer, render, render_all}
use Rattle.model.specs.Memory.{Memory, boxes, mails, filled}
use Rattle.model.specs.Replies.{reply_of, refused, bad_event, not_supported, bad_charset}
use Rattle.model.specs.Answering.{some_selected, is_accepted, first_reply, reply, answer_lines, verb, no_room}
use Rattle.model.specs.Rules.{accepted}
use Rattle.model.specs.Records.{command}
use Rattle.model.specs.Call.{refuse}
use Rattle.model.specs.Queue.{written}
use Rattle.model.specs.declared.Message.{Message}
use Rattle.model.specs.declared.Counts.{Counts}
use Rattle.model.specs.declared.Session.{Session}
use Rattle.model.specs.declared.Reply.{Reply}
use Rattle.model.specs.declared.Reply.TheVariants.{Bad, BadEvent, Unsupported, BadCharset, TooLarge, Accepted}
use Rattle.model.specs.declared.Refusal.TheVariants.{NoRoom}
use Rattle.demands.specs.Lasting.Law.{Law}
use Rattle.table_messages.specs.Words.{messages-take}
use Rattle.table_messages.specs.Laid.{laid, laid_own}
use Rattle.table_mailboxes.specs.Columns.{Laid}
use Rattle.table_mailboxes.specs.declared.Columns.{Columns}
use Rattle.line_answer.specs.Sizes.{reply_by, Whole}
use Rattle.line_answer.specs.Answered.{whole_text, text-accepted, text-refused, no-room_is, refused_left, search_left, left_as}
use Rattle.record_outcome.specs.Coming.{calm, Came, Lends, Comes, ladder}
use Rattle.record_outcome.specs.Laws.{comes-refused}
use Rattle.record_reply.specs.Left.{upto, came_by}
use Rattle.search_hits.specs.Finding.{Searches, Gathers}
use Rattle.search_hits.specs.declared.Hits.{Hits}
use Rattle.search_lines.specs.Lines.{whole_by, whole_is}
use Rattle.search_lines.specs.Said.{answer_by, answer_whole, answer_large}

-- ---- an accepted search is within the limits
small_of : (a b c d e : Bool) → cond a Bad (cond b BadEvent (cond c Unsupported (cond d BadCharset (cond e TooLarge Accepted)))) ≡ Accepted → e ≡ false
small_of true b c d e h = absurd (let z : ◌≡◌ {A = ℕ} 0 1 = cc in let y : ⊥ = omega arith in y)
small_of false true c d e h = absurd (let z : ◌≡◌ {A = ℕ} 0 1 = cc in let y : ⊥ = omega arith in y)
small_of false false true d e h = absurd (let z : ◌≡◌ {A = ℕ} 0 1 = cc in let y : ⊥ = omega arith in y)
small_of false false false true e h = absurd (let z : ◌≡◌ {A = ℕ} 0 1 = cc in let y : ⊥ = omega arith in y)
small_of false false false false true h = absurd (let z : ◌≡◌ {A = ℕ} 0 1 = cc in let y : ⊥ = omega arith in y)
small_of false false false false false h = refl

module _ (m : Memory) (t : List ℕ) (p : ℕ) (q : Search) (c : command_of t ≡ ok p (search q)) (first : first_reply m t ≡ Accepted) where
  pub accepted-small : command_too_large limits (search q) ≡ false
  accepted-small =
      small_of (refused (some_selected m) (search q)) (bad_event (search q)) (not_supported (search q)) (bad_charset (search q)) (command_too_large limits (search q))
      (ap (reply_of limits (some_selected m)) (sym c) ∙ first)

  abbrev most : ℕ
  most = length m.queue - 64

  -- the text that is written is the answer's
  text_is : answer_by t (whole_text m t) most ≡ render_all (answer_lines m t)
  text_is = go (is_accepted (reply m t)) refl
    where
      same : reply m t ≡ reply_by Accepted (length (whole_text m t)) most
      same = ap (λ (r : Reply). reply_by r (length (whole_text m t)) most) first

      go : (b : Bool) → is_accepted (reply m t) ≡ b → answer_by t (whole_text m t) most ≡ render_all (answer_lines m t)
      go true h = sym (answer_whole t (whole_text m t) most (reply m t) same h) ∙ text-accepted m t h
      go false h =
          sym (answer_large t (whole_text m t) most (reply m t) same h)
          ∙ (ap (λ (x : Parsed Command). render (answer (tag_of t) (verb x) (reply m t))) (sym c) ∙ text-refused m t h)

  -- ---- what it comes to
  module _ (q₁ : List ℕ) (fits : Bool) (end : ℕ) (whole : Whole m.queue (filled m) (answer_by t (whole_text m t) most) q₁ fits end) where
    after_is : fits ≡ true → (accepted m (command t)).after ≡ left_as m m.entries m.counts.messages m.session q₁ end
    after_is f = go (is_accepted (reply m t)) refl
      where
        go : (b : Bool) → is_accepted (reply m t) ≡ b → (accepted m (command t)).after ≡ left_as m m.entries m.counts.messages m.session q₁ end
        go true h = search_left m t text_is whole f h p q c
        go false h = refused_left m t text_is whole f h

    room_is : no_room m t ≡ not fits
    room_is = no-room_is m t text_is whole

    module _ (ws : List ℕ) (k : Counts) (s : Session) (q₀ : List ℕ) (lent : Lends m ws k s q₀) where
      done_is : fits ≡ true → Comes m (accepted m (command t)) (Ok (calm None (upto k k.messages end) s)) ws ws q₁
      unfolding accepted
      done_is f =
          let e = sym (after_is f) in
          record {
            answer = refl;
            rows = ap (λ (j : Memory). j.rows) e;
            words = laid_own ws ∙ ap (laid ws) (sym lent.entries ∙ ap (λ (j : Memory). j.entries) e);
            counts = ap (λ (j : Counts). upto j j.messages end) (sym lent.counts) ∙ ap (λ (j : Memory). j.counts) e;
            session = sym lent.session ∙ ap (λ (j : Memory). j.session) e;
            queue = ap (λ (j : Memory). j.queue) e;
          }

      pub search_comes : (r : Came) → r ≡ came_by fits end k s → Comes m (ladder m (command t)) r ws ws q₁
      search_comes r e = rw room_is (go fits refl e)
        where
          go : (b : Bool) → fits ≡ b → r ≡ came_by b end k s → Comes m (cond (not b) (refuse m NoRoom) (accepted m (command t))) r ws ws q₁
          go true f x = rw x (done_is f)
          go false f x =
              let y : q₁ ≡ q₀ = whole.queue ∙ (ap (λ (b : Bool). cond b (written m.queue (filled m) (answer_by t (whole_text m t) most)) m.queue) f ∙ lent.queue) in
              rw y (comes-refused m ws k s q₀ lent NoRoom (refuse m NoRoom) r refl x)

-- ---- the memory that is lent is the one that is searched
pub lent_searches : (m : Memory) (ws : List ℕ) (k : Counts) (s : Session) (q : List ℕ) → Lends m ws k s q → Law m
    → (c : Columns) (validities nexts counters : List ℕ) → length (boxes m) ≡ c.n → Laid (boxes m) c.ids c.attributes c.lens validities nexts counters c.names
    → Searches m (take (6 * k.messages) ws) s.selected s.told c validities nexts counters
lent_searches m ws k s q lent law c validities nexts counters long columns =
    let fit : m.counts.messages ≤ length m.entries = leb-true _ _ law.taken in
    let all : length m.entries ≤ 1024 = leb-true _ _ law.entries in
    let taken : length (mails m) ≡ m.counts.messages = length-take-le m.counts.messages m.entries fit in
    record {
      messages = ap₂ (λ (n : ℕ) (l : List Message). take n l) (ap (λ (j : Counts). j.messages) lent.counts) lent.entries ∙ sym (messages-take k.messages ws);
      selected = ap (λ (j : Session). j.selected) lent.session;
      view = ap (λ (j : Session). j.told) lent.session;
      long = long;
      columns = columns;
      few = omega arith;
      distinct = law.apartness;
    }

-- ---- a search that was found and said, for the memory that was searched
pub record Tells (text words : List ℕ) (s told : ℕ) (c : Columns) (q : List ℕ) (at : ℕ) (q₁ : List ℕ) (fits : Bool) (end : ℕ) : Type 0 where
  pub exact : (m : Memory) (nexts counters : List ℕ) → Searches m words s told c c.validities nexts counters
      → (p : ℕ) (a : Search) → command_of text ≡ ok p (search a) → command_too_large limits (search a) ≡ false
      → Whole q at (answer_by text (whole_text m text) (length q - 64)) q₁ fits end

pub tells : (text words : List ℕ) (s told : ℕ) (c : Columns) (rows uids starts counts : List ℕ) (h : Hits)
    → Gathers text words s told c rows uids starts counts h
    → (q : List ℕ) (at : ℕ) (q₁ : List ℕ) (fits : Bool) (end : ℕ) → Whole q at (answer_by text (whole_by text c rows uids starts counts h) (length q - 64)) q₁ fits end
    → Tells text words s told c q at q₁ fits end
tells text words s told c rows uids starts counts h g q at q₁ fits end w = record {
  exact = λ m nexts counters is p a e small.
      subst (λ (x : List ℕ). Whole q at (answer_by text x (length q - 64)) q₁ fits end)
      (whole_is text words s told c rows uids starts counts h g m c.validities nexts counters is p a e small) w;
}

-- what the code answers, from what it was lent
pub answer_comes : (text ws : List ℕ) (c : Columns) (k : Counts) (s : Session) (q q₁ : List ℕ) (fits : Bool) (end : ℕ) (r : Came)
    → Tells text (take (6 * k.messages) ws) s.selected s.told c q k.filled q₁ fits end → r ≡ came_by fits end k s
    → (m : Memory) (nexts counters : List ℕ) (p : ℕ) (a : Search) → Lends m ws k s q → Law m → length (boxes m) ≡ c.n
    → Laid (boxes m) c.ids c.attributes c.lens c.validities nexts counters c.names
    → command_of text ≡ ok p (search a) → first_reply m text ≡ Accepted → Comes m (ladder m (command text)) r ws ws q₁
answer_comes text ws c k s q q₁ fits end r told e m nexts counters p a lent law long columns d first =
    let w = told.exact m nexts counters (lent_searches m ws k s q lent law c c.validities nexts counters long columns) p a d (accepted-small m text p a d first) in
    let x : Whole m.queue (filled m) (answer_by text (whole_text m text) (length m.queue - 64)) q₁ fits end =
    subst (λ (j : List ℕ). Whole j (filled m) (answer_by text (whole_text m text) (length j - 64)) q₁ fits end) (sym lent.queue)
    (subst (λ (j : Counts). Whole q j.filled (answer_by text (whole_text m text) (length q - 64)) q₁ fits end) (sym lent.counts) w) in
    search_comes m text p a d first q₁ fits end x ws k s q lent r e
