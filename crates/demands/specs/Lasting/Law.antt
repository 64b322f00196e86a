-- Lawful memory as facts, and how each write of memory keeps it lawful. Assumes nothing.
use Rattle.std.specs.Prelude.{◌≡◌, refl, List, Bool, true, false, ◌||◌, ℕ, ◌+◌, ◌-◌, ◌≤◌, eqb, leb, length}
use Rattle.std.proofs.Common.{arith, leb-true, le-leb}
use Rattle.model.specs.Lists.{allb, every, apart}
use Rattle.model.specs.Laws.{and_l, and_r, or_true, each, all_hold}
use Rattle.model.specs.Memory.{Memory, boxes, mails, filled, with_boxes, with_mails, with_session}
use Rattle.model.specs.Queue.{enqueue, dequeue, written}
use Rattle.model.specs.Lawful.{queue_ok, filled_ok, mailbox_ok, clash, message_ok, twin, owned, view_ok, state_ok, session_ok, sizes_ok, contents_ok, lawful}
use Rattle.model.specs.declared.Mailbox.{Mailbox}
use Rattle.model.specs.declared.Message.{Message}
use Rattle.model.specs.declared.Session.{Session}
use Rattle.demands.specs.Isolation.Alike.{boxes_with, mails_with, rows_with, entries_with, length-written, length-shifted}

-- what lawful memory is, a fact for each condition
pub record Law (m : Memory) : Type 0 where
  pub size : queue_ok (length m.queue) ≡ true
  pub fill : filled_ok (length m.queue) (filled m) m.session ≡ true
  pub rows : leb (length m.rows) 64 ≡ true
  pub used : leb m.counts.mailboxes (length m.rows) ≡ true
  pub entries : leb (length m.entries) 1024 ≡ true
  pub taken : leb m.counts.messages (length m.entries) ≡ true
  pub box : allb mailbox_ok (boxes m) ≡ true
  pub mail : allb message_ok (mails m) ≡ true
  pub session : session_ok m.session ≡ true
  pub apartness : apart clash (boxes m) ≡ true
  pub twins : apart twin (mails m) ≡ true
  pub owners : allb (owned (boxes m)) (mails m) ≡ true
  pub view : view_ok (boxes m) m.session ≡ true
  pub states : allb (state_ok m.session) (mails m) ≡ true

pub law_in : (m : Memory) → Law m → lawful m ≡ true
unfolding lawful
law_in m l =
    rw (all_hold (sizes_ok m) (l.size, (l.fill, (l.rows, (l.used, (l.entries, (l.taken, tt)))))))
    (all_hold (contents_ok (boxes m) (mails m) m.session) (l.box, (l.mail, (l.session, (l.apartness, (l.twins, (l.owners, (l.view, (l.states, tt)))))))))

pub law_out : (m : Memory) → lawful m ≡ true → Law m
unfolding lawful
law_out m h =
    let a = each (sizes_ok m) (and_l (every (sizes_ok m)) (every (contents_ok (boxes m) (mails m) m.session)) h) in
    let b = each (contents_ok (boxes m) (mails m) m.session) (and_r (every (sizes_ok m)) (every (contents_ok (boxes m) (mails m) m.session)) h) in
    record {
      size = a.0;
      fill = a.1.0;
      rows = a.1.1.0;
      used = a.1.1.1.0;
      entries = a.1.1.1.1.0;
      taken = a.1.1.1.1.1.0;
      box = b.0;
      mail = b.1.0;
      session = b.1.1.0;
      apartness = b.1.1.1.0;
      twins = b.1.1.1.1.0;
      owners = b.1.1.1.1.1.0;
      view = b.1.1.1.1.1.1.0;
      states = b.1.1.1.1.1.1.1.0;
    }

-- ---- the mailboxes become l
pub law-boxes : (m : Memory) → Law m → (l : List Mailbox) → length l ≤ length m.rows → allb mailbox_ok l ≡ true → apart clash l ≡ true
    → allb (owned l) (mails m) ≡ true → view_ok l m.session ≡ true → Law (with_boxes m l)
law-boxes m k l h box apartness owners view =
    let e = boxes_with m l in
    let n = rows_with m l h in
    record {
      size = k.size;
      fill = k.fill;
      rows = rw n k.rows;
      used = rw n (le-leb (length l) (length m.rows) h);
      entries = k.entries;
      taken = k.taken;
      box = rw e box;
      mail = k.mail;
      session = k.session;
      apartness = rw e apartness;
      twins = k.twins;
      owners = rw e owners;
      view = rw e view;
      states = k.states;
    }

-- ---- the messages become l
pub law-mails : (m : Memory) → Law m → (l : List Message) → length l ≤ length m.entries → allb message_ok l ≡ true → apart twin l ≡ true
    → allb (owned (boxes m)) l ≡ true → allb (state_ok m.session) l ≡ true → Law (with_mails m l)
law-mails m k l h mail twins owners states =
    let e = mails_with m l in
    let n = entries_with m l h in
    record {
      size = k.size;
      fill = k.fill;
      rows = k.rows;
      used = k.used;
      entries = rw n k.entries;
      taken = rw n (le-leb (length l) (length m.entries) h);
      box = k.box;
      mail = rw e mail;
      session = k.session;
      apartness = k.apartness;
      twins = rw e twins;
      owners = rw e owners;
      view = k.view;
      states = rw e states;
    }

-- ---- the session becomes s
pub law-session : (m : Memory) → Law m → (s : Session) → filled_ok (length m.queue) (filled m) s ≡ true → session_ok s ≡ true → view_ok (boxes m) s ≡ true → allb (state_ok s) (mails m) ≡ true → Law (with_session m s)
law-session m k s fill session view states = record {
  size = k.size;
  fill = fill;
  rows = k.rows;
  used = k.used;
  entries = k.entries;
  taken = k.taken;
  box = k.box;
  mail = k.mail;
  session = session;
  apartness = k.apartness;
  twins = k.twins;
  owners = k.owners;
  view = view;
  states = states;
}

-- ---- the queue
pub big : (m : Memory) → Law m → 1024 ≤ length m.queue
big m k = leb-true 1024 (length m.queue) (and_l (leb 1024 (length m.queue)) _ k.size)

pub inside : (m : Memory) → Law m → filled m ≤ length m.queue
inside m k = leb-true (filled m) (length m.queue) (and_l (leb (filled m) (length m.queue)) _ k.fill)

-- a text that leaves 64 octets
pub law-enqueue : (m : Memory) → Law m → (x : List ℕ) → filled m + length x ≤ length m.queue - 64 → Law (enqueue m x)
law-enqueue m k x h =
    let b = big m k in
    let n : length (written m.queue (filled m) x) ≡ length m.queue = let w = length-written m.queue (filled m) x in omega arith in
    record {
      size = rw n k.size;
      fill = rw (n, le-leb (filled m + length x) (length m.queue) (omega arith), le-leb (filled m + length x) (length m.queue - 64) h) (or_true (eqb m.session.groupcount 0));
      rows = k.rows;
      used = k.used;
      entries = k.entries;
      taken = k.taken;
      box = k.box;
      mail = k.mail;
      session = k.session;
      apartness = k.apartness;
      twins = k.twins;
      owners = k.owners;
      view = k.view;
      states = k.states;
    }

-- a text that does not, while no group stands
pub law-overflow : (m : Memory) → Law m → eqb m.session.groupcount 0 ≡ true → (x : List ℕ) → filled m + length x ≤ length m.queue → Law (enqueue m x)
law-overflow m k g x h =
    let n : length (written m.queue (filled m) x) ≡ length m.queue = let w = length-written m.queue (filled m) x in omega arith in
    record {
      size = rw n k.size;
      fill = rw (n, g, le-leb (filled m + length x) (length m.queue) h);
      rows = k.rows;
      used = k.used;
      entries = k.entries;
      taken = k.taken;
      box = k.box;
      mail = k.mail;
      session = k.session;
      apartness = k.apartness;
      twins = k.twins;
      owners = k.owners;
      view = k.view;
      states = k.states;
    }

-- fewer octets
less-filled : (q f g : ℕ) (s : Session) → g ≤ f → filled_ok q f s ≡ true → filled_ok q g s ≡ true
less-filled q f g s h e =
    let a = leb-true f q (and_l (leb f q) _ e) in
    rw (le-leb g q (omega arith)) (go (eqb s.groupcount 0) refl (and_r (leb f q) (eqb s.groupcount 0 || leb f (q - 64)) e))
  where
    go : (b : Bool) → eqb s.groupcount 0 ≡ b → (eqb s.groupcount 0 || leb f (q - 64)) ≡ true → (eqb s.groupcount 0 || leb g (q - 64)) ≡ true
    go true z w = rw z
    go false z w = rw z (let v = leb-true f (q - 64) (rw z at w) in le-leb g (q - 64) (omega arith))

pub law-dequeue : (m : Memory) → Law m → (n : ℕ) → n ≤ filled m → Law (dequeue m n)
law-dequeue m k n h =
    let e = length-shifted m.queue (filled m) n (inside m k) h in
    record {
      size = rw e k.size;
      fill = rw e (less-filled (length m.queue) (filled m) (filled m - n) m.session (omega arith) k.fill);
      rows = k.rows;
      used = k.used;
      entries = k.entries;
      taken = k.taken;
      box = k.box;
      mail = k.mail;
      session = k.session;
      apartness = k.apartness;
      twins = k.twins;
      owners = k.owners;
      view = k.view;
      states = k.states;
    }
