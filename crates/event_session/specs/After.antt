-- What the records leave: entries, how many of them, queue, session and F; and that the rules say so. Assumes nothing.
use Rattle.std.specs.Prelude.{◌≡◌, refl, not, List, map, ℕ, ◌-◌, ◌≤◌, length, take}
use Rattle.std.proofs.Common.{ap, ◌∙◌, arith}
use Rattle.std.proofs.lemmas.List.{length-map}
use Rattle.model.specs.Lists.{filterb}
use Rattle.model.specs.Laws.{filter-length}
use Rattle.model.specs.Memory.{Memory, boxes, mails, filled, the_mailbox, no_message, expunged, refill, with_mails, with_session, with_view, drop_mails, change_mails}
use Rattle.model.specs.Queue.{shifted}
use Rattle.model.specs.Rules.{accepted, rested}
use Rattle.model.specs.Records.{select, drained}
use Rattle.demands.specs.Lasting.Law.{Law}
use Rattle.demands.specs.Isolation.Alike.{mails_with}
use Rattle.model.specs.declared.Message.{Message}
use Rattle.model.specs.declared.Session.{Session}
use Rattle.model.specs.declared.Answer.TheVariants.{Done}
use Rattle.laws.specs.Changing.{used_long}
use Rattle.laws.specs.Dropping.{refill_twice}
use Rattle.table_sweep.specs.Swept.{kept}
use Rattle.table_sweep.specs.declared.Sweep.{Sweep}
use Rattle.table_sweep.specs.declared.Sweep.TheVariants.{Rested, Told}

pub record After : Type 0 where
  pub entries : List Message
  pub used : ℕ
  pub queue : List ℕ
  pub session : Session
  pub filled : ℕ

-- memory with what was left
abbrev pub left : Memory → After → Memory
left m x = record { rows = m.rows; entries = x.entries; counts = record { mailboxes = m.counts.mailboxes; messages = x.used; filled = x.filled }; session = x.session; queue = x.queue }

-- ---- `DR`
abbrev pub drain_after : List Message → ℕ → List ℕ → Session → ℕ → ℕ → After
drain_after es used q s at n = record { entries = es; used = used; queue = shifted q at n; session = s; filled = at - n }

pub drain-accepted : (m : Memory) (n : ℕ) → (accepted m (drained n)).after ≡ left m (drain_after m.entries m.counts.messages m.queue m.session (filled m) n)
unfolding accepted
drain-accepted m n = refl

pub drain-answer : (m : Memory) (n : ℕ) → (accepted m (drained n)).answer ≡ Done
unfolding accepted
drain-answer m n = refl

-- ---- `SE`
unfoldable pub rests : List Message → List Message
rests l = map rested (filterb (λ (e : Message). not (expunged e)) l)

pub kept_rests : (l : List Message) → kept Rested l ≡ rests l
unfolding kept rests
kept_rests l = refl

-- ---- a pass after lines of mailbox i were told: EXPUNGE below b, FETCH below c
abbrev pub told_to : ℕ → ℕ → ℕ → Sweep
told_to i b c = Told i (record { 0 = b }) (record { 0 = c })

abbrev pub select_entries : List Message → ℕ → List Message
select_entries es used = refill no_message es used (rests (take used es))

abbrev pub select_after : List Message → ℕ → List ℕ → Session → ℕ → ℕ → ℕ → After
select_after es used q s at id next = record { entries = select_entries es used; used = length (rests (take used es)); queue = q; session = with_view s id next; filled = at }

-- a used part that shrinks twice
pub with_shorter : (m : Memory) (l k : List Message) → length l ≤ length (mails m) → length k ≤ length l → with_mails (with_mails m l) k ≡ with_mails m k
with_shorter m l k h w =
    ap (λ (t : List Message). record { rows = m.rows; entries = t; counts = record { mailboxes = m.counts.mailboxes; messages = length k; filled = m.counts.filled }; session = m.session; queue = m.queue })
    (ap (λ (i : ℕ). refill no_message (with_mails m l).entries i k) (ap length (mails_with m l)) ∙ refill_twice no_message m.entries (length (mails m)) l k h w)

pub select-accepted : (m : Memory) → Law m → (i : ℕ) → (accepted m (select i)).after ≡ left m (select_after m.entries m.counts.messages m.queue m.session (filled m) i (the_mailbox i (boxes m)).uidnext)
unfolding accepted rests
select-accepted m law i =
    let stay = filterb (λ (e : Message). not (expunged e)) (mails m) in
    let a : change_mails (drop_mails m expunged) rested ≡ with_mails m (map rested (filterb (λ (e : Message). not (expunged e)) (mails m))) =
    ap (λ (l : List Message). with_mails (drop_mails m expunged) (map rested l)) (mails_with m (filterb (λ (e : Message). not (expunged e)) (mails m)))
    ∙ with_shorter m (filterb (λ (e : Message). not (expunged e)) (mails m)) (map rested (filterb (λ (e : Message). not (expunged e)) (mails m))) (filter-length (λ (e : Message). not (expunged e)) (mails m)) (let n = length-map (filterb (λ (e : Message). not (expunged e)) (mails m)) rested in omega arith) in
    ap (λ (k : Memory). with_session k (with_view m.session i (the_mailbox i (boxes m)).uidnext)) a
    ∙ ap (λ (n : ℕ). record {
      rows = m.rows;
      entries = refill no_message m.entries n
          (map rested (filterb (λ (e : Message). not (expunged e)) (mails m)));
      counts = record {
        mailboxes = m.counts.mailboxes;
        messages = length
            (map rested (filterb (λ (e : Message). not (expunged e)) (mails m)));
        filled = filled m;
      };
      session = with_view m.session i
          (the_mailbox i (boxes m)).uidnext;
      queue = m.queue;
    }) (used_long m law)

pub select-answer : (m : Memory) (i : ℕ) → (accepted m (select i)).answer ≡ Done
unfolding accepted
select-answer m i = refl
