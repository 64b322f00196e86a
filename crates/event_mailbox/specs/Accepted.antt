-- What the code leaves is what the rules say of `MB DL RN SB RT`, in lawful memory where no refusal applies. Assumes nothing.
use Rattle.std.specs.Prelude.{◌≡◌, true, false, not, List, ℕ, ◌+◌, ◌-◌, ◌<◌, ◌≤◌, length, get_or, set, take}
use Rattle.std.proofs.Math.Path.{refl, ap}
use Rattle.std.proofs.Common.{sym, ◌∙◌, arith}
use Rattle.std.proofs.Math.Seq.{length-take-le}
use borrow.Author.Tests.{leb-true, leb-false, ltb-true, not-false}
use Rattle.model.specs.Lists.{filterb}
use Rattle.model.specs.Names.{Name, valid, fold, argument, parent_of}
use Rattle.model.specs.Memory.{Memory, boxes, filled, name_of, no_mailbox, no_message, place, known, the_mailbox, in_mailbox, with_attributes, with_name, refill, drop_mails}
use Rattle.model.specs.Lines.{list, renamed, non_existent}
use Rattle.model.specs.Events.{silence, created, deleted, renamed_to, subscribed_to, granted, with_rights, with_subscribed, new_box, list_mark, listed_row, parent_row, parent_lines}
use Rattle.model.specs.Refusals.{table_full}
use Rattle.model.specs.Rules.{accepted}
use Rattle.model.specs.Records.{create, delete, rename, subscribe, grant}
use Rattle.demands.specs.Lasting.Law.{Law}
use Rattle.demands.specs.Lasting.Spoken.{law-silence}
use Rattle.model.specs.declared.Mailbox.{Mailbox}
use Rattle.model.specs.declared.Message.{Message}
use Rattle.table_mailboxes.specs.Walks.{row_at_lem}
use Rattle.table_mailboxes.specs.Rows.{boxes_long, put_at_lem, add_at}
use Rattle.table_mailboxes.specs.Shift.{closed}
use Rattle.line_put.specs.Heard.{Heard, After}
use Rattle.match_parent.specs.Upper.{StandsFor}
use Rattle.event_mailbox.specs.Appearing.{either_told, both_lines, both_ends, both-when}
use Rattle.event_mailbox.specs.Rights.{grant_row, grant_mark, grant_after, grant_name, rights_by_lem}
use Rattle.event_mailbox.specs.Subscriptions.{subscribe_told, subscribe_mark, subscribe_after, loud-when}
use Rattle.event_mailbox.specs.Creating.{create_after}
use Rattle.event_mailbox.specs.Renaming.{rename_told, rename_after}
use Rattle.event_mailbox.specs.Deleting.{delete_heard}
use Rattle.laws.specs.Room.{law-room}
use Rattle.event_mailbox.specs.Free.{both_free, subscribe_free, rename_free}
use Rattle.event_mailbox.specs.Dropping.{drop_at}
use Rattle.event_mailbox.specs.Telling.{told_list, told_made}

-- memory where row k is another, n rows are used, and something was heard
abbrev pub left : Memory → ℕ → ℕ → After → Memory
left m k n x = record {
  rows = set m.rows k x.row;
  entries = m.entries;
  counts = record { mailboxes = n; messages = m.counts.messages; filled = x.heard.filled };
  session = x.heard.session;
  queue = x.heard.queue;
}

-- the entries that stay when mailbox i goes
abbrev pub staying : ℕ → ℕ → List Message → List Message
staying i used es = filterb (λ (e : Message). not (in_mailbox i e)) (take used es)

-- memory where row k of n is taken out, with the messages of mailbox i, and something was heard
abbrev pub left_without : Memory → ℕ → ℕ → Heard → Memory
left_without m i k h = record {
  rows = closed k m.counts.mailboxes m.rows;
  entries = refill no_message m.entries m.counts.messages (staying i m.counts.messages m.entries);
  counts = record {
    mailboxes = m.counts.mailboxes - 1;
    messages = length (staying i m.counts.messages m.entries);
    filled = h.filled;
  };
  session = h.session;
  queue = h.queue;
}

-- a valid name is kept with INBOX folded
pub valid-argument : (n : Name) → valid n ≡ true → argument n ≡ fold n
valid-argument n h = rw h

module _ (m : Memory) (law : Law m) (i : ℕ) where
  abbrev used : ℕ
  used = m.counts.mailboxes

  fit : m.counts.mailboxes ≤ length m.rows
  fit = leb-true _ _ law.used

  -- the mailbox i is known, at place k
  module _ (k : ℕ) (x : Mailbox) (at : k ≡ place i (boxes m)) (is : x ≡ get_or m.rows k no_mailbox) (here : not (known i (boxes m)) ≡ false) where
    within : k < m.counts.mailboxes
    within =
        let n = boxes_long m fit in
        let z = ltb-true (place i (boxes m)) (length (boxes m)) (not-false _ here) in
        omega arith

    the_row : the_mailbox i (boxes m) ≡ x
    the_row = row_at_lem i m.rows m.counts.mailboxes k fit at no_mailbox within ∙ sym is

    -- y stands for its parent
    pub grant-accepted : (r : ℕ) (y : Mailbox) → StandsFor m.session (boxes m) (name_of x) y
        → (accepted m (grant i r)).after ≡ left m k m.counts.mailboxes (grant_after m.queue m.session (filled m) y x r)
    unfolding accepted
    grant-accepted r y st =
        let z : Mailbox = with_rights x r in
        let w : Mailbox = grant_row x z in
        let named : name_of w ≡ name_of x = grant_name x z refl in
        told_list m (λ (j : Memory). granted j i r) (λ (h : Heard). left m k m.counts.mailboxes (record { row = z; heard = h }))
        (rw the_row (put_at_lem m fit i k z at within))
        (rw the_row (put_at_lem (silence m) fit i k z at within))
        (λ h t. refl)
        (both_lines m.session y w 0 (grant_mark x z))
        (both_ends m.session y w 0 (grant_mark x z))
        (either_told m.session y w 0)
        (rw the_row (rights_by_lem m.session (parent_row (boxes m) x) x z
        ∙ both-when m.session y w 0 (grant_mark x z) _ (st w named ∙ ap (λ (n : Name). parent_lines m.session (listed_row (parent_of n) (boxes m)) w) named)))
        (both_free _ _ _ (law-room m law) y w 0)

    pub subscribe-accepted : (b q : ℕ) → (accepted m (subscribe i b q)).after ≡ left m k m.counts.mailboxes (subscribe_after m.queue m.session (filled m) x b q)
    unfolding accepted
    subscribe-accepted b q =
        let y : Mailbox = with_attributes x (with_subscribed x.attributes b) in
        told_made m (λ (j : Memory). subscribed_to j i b q) (λ (h : Heard). left m k m.counts.mailboxes (record { row = y; heard = h }))
        (rw the_row (put_at_lem m fit i k y at within))
        (rw the_row (put_at_lem (silence m) fit i k y at within))
        (λ h t. refl)
        (list (subscribe_mark b) (name_of x))
        (λ j. refl)
        (subscribe_told m.session x b q)
        (rw the_row (loud-when q _ (list (subscribe_mark b) (name_of x))))
        (subscribe_free _ _ _ (law-room m law) x b q)

    pub rename-accepted : (q : ℕ) (n : Name) → valid n ≡ true
        → (accepted m (rename i q (fold n))).after ≡ left m k m.counts.mailboxes (rename_after m.queue m.session (filled m) x (argument n) q)
    unfolding accepted
    rename-accepted q n v =
        let y : Mailbox = with_name x (fold n) in
        rw (valid-argument n v)
        (told_made m (λ (j : Memory). renamed_to j i q (fold n)) (λ (h : Heard). left m k m.counts.mailboxes (record { row = y; heard = h }))
        (rw the_row (put_at_lem m fit i k y at within))
        (rw the_row (put_at_lem (silence m) fit i k y at within))
        (λ h t. refl)
        (renamed (list_mark x) (name_of y) (name_of x))
        (λ j. refl)
        (rename_told m.session x y q)
        (rw the_row (loud-when q _ (renamed (list_mark x) (name_of y) (name_of x))))
        (rename_free _ _ _ (law-room m law) x y q))

    -- its messages go with it
    pub delete-accepted : (q : ℕ) (y : Mailbox) → StandsFor m.session (boxes m) (name_of x) y
        → (accepted m (delete i q)).after ≡ left_without m i k (delete_heard m.queue m.session (filled m) y x q)
    unfolding accepted
    delete-accepted q y st =
        let c = length-take-le m.counts.messages m.entries (leb-true _ _ law.taken) in
        told_list m (λ (j : Memory). deleted j i q) (left_without m i k)
        (ap (λ (j : Memory). drop_mails j (in_mailbox i)) (drop_at m law i k at within) ∙ rw c)
        (ap (λ (j : Memory). drop_mails j (in_mailbox i)) (drop_at (silence m) (law-silence m law) i k at within) ∙ rw c)
        (λ h t. refl)
        (both_lines m.session y x q non_existent)
        (both_ends m.session y x q non_existent)
        (either_told m.session y x q)
        (rw the_row (both-when m.session y x q non_existent _ (st x refl)))
        (both_free _ _ _ (law-room m law) y x q)

  pub create-accepted : (a q v c : ℕ) (n : Name) (y : Mailbox) → valid n ≡ true → table_full m (create i a q v c (fold n)) ≡ false → StandsFor m.session (boxes m) (name_of (new_box i a v c (argument n))) y
      → (accepted m (create i a q v c (fold n))).after ≡ left m m.counts.mailboxes (m.counts.mailboxes + 1) (create_after m.queue m.session (filled m) y (new_box i a v c (argument n)) q)
  unfolding accepted
  create-accepted a q v c n y ok free st =
      let l = boxes_long m fit in
      let z = leb-false (length m.rows) (length (boxes m)) free in
      let x : Mailbox = new_box i a v c (fold n) in
      rw (valid-argument n ok)
      (told_list m (λ (j : Memory). created j i a q v c (fold n)) (λ (h : Heard). left m m.counts.mailboxes (m.counts.mailboxes + 1) (record { row = x; heard = h }))
      (add_at m fit x (omega arith))
      (add_at (silence m) fit x (omega arith))
      (λ h t. refl)
      (both_lines m.session y x q (list_mark x))
      (both_ends m.session y x q (list_mark x))
      (either_told m.session y x q)
      (both-when m.session y x q (list_mark x) _ (st x (ap (λ (k : Name). name_of (new_box i a v c k)) (sym (valid-argument n ok)))))
      (both_free _ _ _ (law-room m law) y x q))
