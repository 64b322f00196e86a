-- What is noted of the rows before NOTIFY SET's listing is written: who is told of, by name, how many messages exist, whose STATUS is told. Assumes nothing.
use Rattle.std.specs.Prelude.{◌≡◌, refl, Bool, true, not, ◌&&◌, List, ◌∷◌, ℕ, zero, suc, ◌<◌, ◌≤◌, eqb, length, take, get_or}
use Rattle.std.proofs.Common.{ap, ap₂, sym, ◌∙◌, arith, get_or-take, length-take-le}
use Rattle.model.specs.Lists.{apart}
use Rattle.model.specs.Lawful.{clash}
use Rattle.model.specs.Memory.{Memory, boxes, mails, no_mailbox, may_list, existing}
use Rattle.model.specs.Groups.{asked_of, asks_messages}
use Rattle.model.specs.Listing.{concerns, listing_line}
use Rattle.model.specs.declared.Mailbox.{Mailbox}
use Rattle.model.specs.declared.Message.{Message}
use Rattle.model.specs.declared.Counts.{Counts}
use Rattle.model.specs.declared.Session.{Session}
use Rattle.demands.specs.Lasting.Law.{Law}
use Rattle.table_messages.specs.Words.{messages}
use Rattle.table_mailboxes.specs.Columns.{Column, Names}
use Rattle.table_mailboxes.specs.Whole.{LaidIn}
use Rattle.table_mailboxes.specs.declared.Columns.{Columns}
use Rattle.match_rows.specs.Picked.{picked_is}
use Rattle.match_rows.specs.Notes.{NotesAll}
use Rattle.order_mailboxes.specs.Named.{chosen, row_at, Picks, Ordered}
use Rattle.line_listing.specs.Telling.{Shown, Tells, tells-listing}
use Rattle.record_outcome.specs.Coming.{Lends}

-- the columns, the order of the rows and the notes beside them are those that the listing of session s shows
pub record Noted (m : Memory) (s : Session) (wanted : Bool) (c : Columns) (listed tally asks : List ℕ) : Type 0 where
  pub long : length (boxes m) ≤ 64
  pub shown : Shown (boxes m) c
  pub ordered : Ordered (λ (x : Mailbox). may_list x && concerns m s x) (boxes m) listed (length listed)
  pub tells : Tells (listing_line m s wanted) (boxes m) tally asks

-- an order that is cut off where it is no longer in use
chosen-cut : (l : List Mailbox) (at : List ℕ) (n k : ℕ) → n ≤ k → chosen l (take k at) n ≡ chosen l at n
unfolding chosen
chosen-cut l at zero k h = refl
chosen-cut l at (suc n) k h = ap₂ (λ (j : ℕ) (xs : List Mailbox). row_at l j ∷ xs) (get_or-take k at n 0 h) (chosen-cut l at n k (omega arith))

ordered-cut : (p : Mailbox → Bool) (l : List Mailbox) (at : List ℕ) (n : ℕ) → n ≤ length at → Ordered p l at n → Ordered p l (take n at) (length (take n at))
ordered-cut p l at n h o =
    rw (length-take-le n at h) (record {
      order = chosen-cut l at n n (omega arith) ∙ o.order;
      low = λ j z. rw (get_or-take n at j 0 z) (o.low j z);
    })

module _ (m : Memory) (ws : List ℕ) (k : Counts) (s : Session) (q : List ℕ) (lent : Lends m ws k s q) (law : Law m) (c : Columns) (laid : LaidIn (boxes m) c) (most : c.n ≤ 64) where
  mails_are : take k.messages (messages ws) ≡ mails m
  mails_are = sym (ap (λ (c : Counts). take c.messages m.entries) lent.counts ∙ ap (take k.messages) lent.entries)

  pub noted-rows : (t : Session) → t.selected ≡ s.selected → (wanted : Bool) (picked listed tally asks : List ℕ) (n : ℕ) → n ≤ length listed
      → ((l : List Mailbox) → length l ≡ c.n → Column (λ (x : Mailbox). x.id) l c.ids → Column (λ (x : Mailbox). x.attributes) l c.attributes
      → Column (λ (x : Mailbox). x.namelen) l c.lens → Names l c.names → NotesAll t wanted l picked asks)
      → ((p : Mailbox → Bool) (l : List Mailbox) → length l ≡ c.n → Column (λ (x : Mailbox). x.namelen) l c.lens → Names l c.names → Picks p l c.n picked → Ordered p l listed n)
      → (wanted ≡ true → (l : List Mailbox) → length l ≡ c.n → Column (λ (x : Mailbox). x.id) l c.ids → apart clash l ≡ true → (i : ℕ) → i < c.n
      → get_or tally i 0 ≡ length (existing (get_or l i no_mailbox).id (take k.messages (messages ws))))
      → Noted m t wanted c (take n listed) tally asks
  noted-rows t same wanted picked listed tally asks n room notes order counts =
      let long = laid.0 in
      let l = laid.1 in
      let all = notes (boxes m) long l.id l.attribute l.len l.name in
      let same' : t.selected ≡ m.session.selected = same ∙ ap (λ (o : Session). o.selected) (sym lent.session) in
      record {
        long = omega arith;
        shown = record { attribute = l.attribute; len = l.len; validity = l.validity; next = l.next; counter = l.counter; name = l.name };
        ordered = ordered-cut (λ (x : Mailbox). may_list x && concerns m t x) (boxes m) listed n room (order (λ (x : Mailbox). may_list x && concerns m t x) (boxes m) long l.len l.name
            (λ i h. all.told i (omega arith) ∙ picked_is m t (get_or (boxes m) i no_mailbox) same'));
        tells = tells-listing m t wanted (boxes m) tally asks
            (λ w i h. counts w (boxes m) long l.id law.apartness i (omega arith) ∙ ap (λ (l : List Message). length (existing (get_or (boxes m) i no_mailbox).id l)) mails_are)
            (λ i h. all.status i h ∙ ap (λ (j : ℕ). wanted && (not (not (eqb (get_or (boxes m) i no_mailbox).id 0) && eqb (get_or (boxes m) i no_mailbox).id j) && asked_of t (get_or (boxes m) i no_mailbox) asks_messages)) same');
      }
