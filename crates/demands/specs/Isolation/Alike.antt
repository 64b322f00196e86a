-- One memory is another without the mailboxes of some ids and their messages: what it reads, and how each write keeps it so. Assumes nothing.
use Rattle.std.specs.Prelude.{◌≡◌, refl, List, [], ◌∷◌, ◌++◌, map, Bool, true, false, not, ℕ, ◌+◌, ◌-◌, ◌≤◌, ◌<◌, max, min, eqb, leb, length, set, take, drop, replicate}
use Rattle.std.proofs.Common.{sym, ◌∙◌, ap, ap₂, append-nil, arith, leb-true, leb-false, length-append, length-take, length-drop, length-set, drop_of_length-le, take_all, take_at}
use Rattle.std.proofs.lemmas.List.{length-replicate, length-map}
use Rattle.std.proofs.Math.Seq.{take-append_seam, take-append-add}
use Rattle.model.specs.Lists.{filterb}
use Rattle.model.specs.Laws.{filter-append, filter-length, filter_swap, filter_map}
use Rattle.model.specs.Memory.{Memory, boxes, mails, filled, held, no_mailbox, no_message, place, known, the_mailbox, messages_of, with_boxes, with_mails, with_session, put_box, add_box, drop_box, add_mail, drop_mails, change_mails, refill}
use Rattle.model.specs.Queue.{written, enqueue, shifted, dequeue}
use Rattle.model.specs.declared.Mailbox.{Mailbox}
use Rattle.model.specs.declared.Message.{Message}
use Rattle.model.specs.declared.Session.{Session}
use Rattle.demands.specs.Isolation.Erase.{boxes_off, mails_off, stays_box, stays_mail, known_off, box_off, set_off, messages_off}

-- ---- a table whose used part is altered
module _ {A : Type 0} (z : A) (table : List A) where
  pub refill_used : (n : ℕ) (l : List A) → take (length l) (refill z table n l) ≡ l
  refill_used n l = take-append_seam l (replicate (n - length l) z ++ drop (max n (length l)) table)

  pub refill-length : (n : ℕ) (l : List A) → n ≤ length table → length l ≤ length table → length (refill z table n l) ≡ length table
  refill-length n l h k =
      let a = length-append l (replicate (n - length l) z ++ drop (max n (length l)) table) in
      let b = length-append (replicate (n - length l) z) (drop (max n (length l)) table) in
      let c = length-replicate (n - length l) z in
      let d = length-drop (max n (length l)) table in
      omega arith

pub boxes_with : (m : Memory) (l : List Mailbox) → boxes (with_boxes m l) ≡ l
boxes_with m l = refill_used no_mailbox m.rows (length (boxes m)) l

pub mails_with : (m : Memory) (l : List Message) → mails (with_mails m l) ≡ l
mails_with m l = refill_used no_message m.entries (length (mails m)) l

-- no more is used than there is
pub boxes_fit : (m : Memory) → length (boxes m) ≤ length m.rows
boxes_fit m = let a = length-take m.counts.mailboxes m.rows in omega arith

pub mails_fit : (m : Memory) → length (mails m) ≤ length m.entries
mails_fit m = let a = length-take m.counts.messages m.entries in omega arith

pub rows_with : (m : Memory) (l : List Mailbox) → length l ≤ length m.rows → length (with_boxes m l).rows ≡ length m.rows
rows_with m l h = refill-length no_mailbox m.rows (length (boxes m)) l (boxes_fit m) h

pub entries_with : (m : Memory) (l : List Message) → length l ≤ length m.entries → length (with_mails m l).entries ≡ length m.entries
entries_with m l h = refill-length no_message m.entries (length (mails m)) l (mails_fit m) h

-- ---- the queue: what it holds after a text more
pub held-written : (q : List ℕ) (at : ℕ) (t : List ℕ) → take (at + length t) (written q at t) ≡ take at q ++ t
unfolding written
held-written q at t = go (leb at (length q)) refl
  where
    go : (b : Bool) → leb at (length q) ≡ b → take (at + length t) (take at q ++ (t ++ drop (at + length t) q)) ≡ take at q ++ t
    go true e =
        let n = length-take at q in
        let h = leb-true at (length q) e in
        let k : length (take at q) ≡ at = omega arith in
        ap (λ (j : ℕ). take (j + length t) (take at q ++ (t ++ drop (at + length t) q))) (sym k)
        ∙ (take-append-add (take at q) (t ++ drop (at + length t) q) (length t)
        ∙ ap (λ (l : List ℕ). take at q ++ l) (take-append_seam t (drop (at + length t) q)))
    go false e =
        let h = leb-false at (length q) e in
        let d : drop (at + length t) q ≡ [] = drop_of_length-le q {i = at + length t} (omega arith) in
        let k : take at q ≡ q = take_all at q (omega arith) in
        let n = length-append q t in
        rw (d, k, append-nil t) (take_all (at + length t) (q ++ t) (omega arith))

pub held-shifted : (q : List ℕ) (f n : ℕ) → f ≤ length q → n ≤ f → take (f - n) (shifted q f n) ≡ drop n (take f q)
unfolding shifted
held-shifted q f n h k =
    let a = length-drop n (take f q) in
    let b = length-take f q in
    take_at (drop n (take f q)) (drop (f - n) q) (f - n) (omega arith)

pub length-shifted : (q : List ℕ) (f n : ℕ) → f ≤ length q → n ≤ f → length (shifted q f n) ≡ length q
unfolding shifted
length-shifted q f n h k =
    let a = length-drop n (take f q) in
    let b = length-take f q in
    let c = length-drop (f - n) q in
    let d = length-append (drop n (take f q)) (drop (f - n) q) in
    omega arith

-- its length, also where the text has no room
pub length-written : (q : List ℕ) (at : ℕ) (t : List ℕ) → length (written q at t) ≡ min at (length q) + (length t + (length q - (at + length t)))
unfolding written
length-written q at t =
    let a = length-append (take at q) (t ++ drop (at + length t) q) in
    let b = length-append t (drop (at + length t) q) in
    let c = length-drop (at + length t) q in
    let d = length-take at q in
    omega arith

-- ---- t is s without the mailboxes of H and their messages; what lies behind counts and F is free in both
pub record Alike (H : ℕ → Bool) (s t : Memory) : Type 0 where
  pub box : boxes t ≡ boxes_off H (boxes s)
  pub mail : mails t ≡ mails_off H (mails s)
  pub session : t.session ≡ s.session
  pub fill : filled t ≡ filled s
  pub hold : held t ≡ held s
  pub wide : length t.queue ≡ length s.queue
  pub rows : length t.rows ≡ length s.rows
  pub entries : length t.entries ≡ length s.entries
  pub awake : H s.session.selected ≡ false

module _ (H : ℕ → Bool) (s t : Memory) (a : Alike H s t) where
  -- ---- what it reads of an id that stays
  module _ (i : ℕ) (hi : H i ≡ false) where
    pub same_known : known i (boxes t) ≡ known i (boxes s)
    same_known = rw a.box (known_off H i hi (boxes s))

    pub same_box : the_mailbox i (boxes t) ≡ the_mailbox i (boxes s)
    same_box = rw a.box (box_off H i hi (boxes s))

    pub same_messages : messages_of i (mails t) ≡ messages_of i (mails s)
    same_messages = rw a.mail (messages_off H i hi (mails s))

  -- ---- a table becomes another
  pub alike-boxes : (l k : List Mailbox) → k ≡ boxes_off H l → length l ≤ length s.rows → Alike H (with_boxes s l) (with_boxes t k)
  alike-boxes l k e h =
      let f : length k ≤ length l = rw e (filter-length (stays_box H) l) in
      let r = a.rows in
      record {
        box = boxes_with t k ∙ (e ∙ ap (boxes_off H) (sym (boxes_with s l)));
        mail = a.mail;
        session = a.session;
        fill = a.fill;
        hold = a.hold;
        wide = a.wide;
        rows = rows_with t k (omega arith) ∙ (r ∙ sym (rows_with s l h));
        entries = a.entries;
        awake = a.awake;
      }

  pub alike-mails : (l k : List Message) → k ≡ mails_off H l → length l ≤ length s.entries → Alike H (with_mails s l) (with_mails t k)
  alike-mails l k e h =
      let f : length k ≤ length l = rw e (filter-length (stays_mail H) l) in
      let r = a.entries in
      record {
        box = a.box;
        mail = mails_with t k ∙ (e ∙ ap (mails_off H) (sym (mails_with s l)));
        session = a.session;
        fill = a.fill;
        hold = a.hold;
        wide = a.wide;
        rows = a.rows;
        entries = entries_with t k (omega arith) ∙ (r ∙ sym (entries_with s l h));
        awake = a.awake;
      }

  pub alike-session : (x y : Session) → y ≡ x → H x.selected ≡ false → Alike H (with_session s x) (with_session t y)
  alike-session x y e h = record {
    box = a.box;
    mail = a.mail;
    session = e;
    fill = a.fill;
    hold = a.hold;
    wide = a.wide;
    rows = a.rows;
    entries = a.entries;
    awake = h;
  }

  -- ---- the six writes, about an id that stays
  pub alike_put : (i : ℕ) → H i ≡ false → (x y : Mailbox) → y ≡ x → H x.id ≡ false → Alike H (put_box s i x) (put_box t i y)
  alike_put i hi x y e h = alike-boxes (set (boxes s) (place i (boxes s)) x) (set (boxes t) (place i (boxes t)) y)
      (rw (e, a.box) (sym (set_off H i hi x h (boxes s))))
      (let n = length-set (boxes s) (place i (boxes s)) x in let k = boxes_fit s in omega arith)

  pub alike-add : (x : Mailbox) → H x.id ≡ false → length (boxes s) < length s.rows → Alike H (add_box s x) (add_box t x)
  alike-add x h room = alike-boxes (boxes s ++ (x ∷ [])) (boxes t ++ (x ∷ []))
      (rw a.box (sym (filter-append (stays_box H) (boxes s) (x ∷ []) ∙ rw h)))
      (let n = length-append (boxes s) (x ∷ []) in omega arith)

  pub alike-drop : (i : ℕ) → Alike H (drop_box s i) (drop_box t i)
  alike-drop i = alike-boxes (filterb (λ (x : Mailbox). not (eqb x.id i)) (boxes s)) (filterb (λ (x : Mailbox). not (eqb x.id i)) (boxes t))
      (rw a.box (filter_swap (λ (x : Mailbox). not (eqb x.id i)) (stays_box H) (boxes s)))
      (let n = filter-length (λ (x : Mailbox). not (eqb x.id i)) (boxes s) in let k = boxes_fit s in omega arith)

  pub alike-add_mail : (e : Message) → H e.mailbox ≡ false → length (mails s) < length s.entries → Alike H (add_mail s e) (add_mail t e)
  alike-add_mail e h room = alike-mails (mails s ++ (e ∷ [])) (mails t ++ (e ∷ []))
      (rw a.mail (sym (filter-append (stays_mail H) (mails s) (e ∷ []) ∙ rw h)))
      (let n = length-append (mails s) (e ∷ []) in omega arith)

  pub alike-drop-mails : (p : Message → Bool) → Alike H (drop_mails s p) (drop_mails t p)
  alike-drop-mails p = alike-mails (filterb (λ (e : Message). not (p e)) (mails s)) (filterb (λ (e : Message). not (p e)) (mails t))
      (rw a.mail (filter_swap (λ (e : Message). not (p e)) (stays_mail H) (mails s)))
      (let n = filter-length (λ (e : Message). not (p e)) (mails s) in let k = mails_fit s in omega arith)

  pub alike-change : (f : Message → Message) → ((e : Message) → (f e).mailbox ≡ e.mailbox) → Alike H (change_mails s f) (change_mails t f)
  alike-change f h = alike-mails (map f (mails s)) (map f (mails t))
      (rw a.mail (sym (filter_map f (stays_mail H) (λ e. ap (λ (i : ℕ). not (H i)) (h e)) (mails s))))
      (let n = length-map (mails s) f in let k = mails_fit s in omega arith)

  -- ---- the queue
  pub alike-enqueue : (x : List ℕ) → Alike H (enqueue s x) (enqueue t x)
  alike-enqueue x = record {
    box = a.box;
    mail = a.mail;
    session = a.session;
    fill = ap (λ (n : ℕ). n + length x) a.fill;
    hold = held-written t.queue (filled t) x ∙ (ap (λ (l : List ℕ). l ++ x) a.hold ∙ sym (held-written s.queue (filled s) x));
    wide = length-written t.queue (filled t) x
        ∙ (ap₂ (λ (f q : ℕ). min f q + (length x + (q - (f + length x)))) a.fill a.wide ∙ sym (length-written s.queue (filled s) x));
    rows = a.rows;
    entries = a.entries;
    awake = a.awake;
  }

  pub alike-dequeue : (n : ℕ) → filled s ≤ length s.queue → n ≤ filled s → Alike H (dequeue s n) (dequeue t n)
  alike-dequeue n h k =
      let f = a.fill in
      let w = a.wide in
      record {
        box = a.box;
        mail = a.mail;
        session = a.session;
        fill = ap (λ (j : ℕ). j - n) f;
        hold = held-shifted t.queue (filled t) n (omega arith) (omega arith) ∙ (ap (drop n) a.hold ∙ sym (held-shifted s.queue (filled s) n h k));
        wide = length-shifted t.queue (filled t) n (omega arith) (omega arith) ∙ (w ∙ sym (length-shifted s.queue (filled s) n h k));
        rows = a.rows;
        entries = a.entries;
        awake = a.awake;
      }
