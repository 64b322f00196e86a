-- Writing lines keeps memory lawful: what a line ends, lines that fit, an event that is told or overflows. Assumes nothing.
use Rattle.std.specs.Prelude.{◌≡◌, refl, List, [], ◌∷◌, map, Bool, true, false, not, cond, ◌&&◌, ◌||◌, ℕ, zero, suc, ◌+◌, ◌-◌, ◌≤◌, eqb, leb, ltb, length}
use Rattle.std.proofs.Common.{◌∙◌, arith, leb-true, le-leb, ltb-true, lt-ltb, eqb-true, length-append}
use Rattle.std.proofs.lemmas.Bool.{eqb-false}
use Rattle.std.proofs.Math.Dec.{leb-zero}
use Rattle.std.proofs.lemmas.List.{length-map}
use Rattle.model.specs.Lists.{filterb}
use Rattle.model.specs.Laws.{tf, and_l, and_r, all_filtered, filter-length, each, all_hold}
use Rattle.model.specs.Memory.{Memory, boxes, mails, filled, selected_box, known, is_message, in_mailbox, uid_of, with_states, with_view, drop_mails, change_mails, silenced}
use Rattle.model.specs.Lines.{Line, status, list, renamed, exists, expunge, fetch, found, overflow, answer, render, render_all}
use Rattle.model.specs.Queue.{room, fits, fitting, written, enqueue, announce, unmark, shows_flags, effect, effects, say}
use Rattle.model.specs.Events.{Event, silence, tellings, settled}
use Rattle.model.specs.Rules.{event_outcome}
use Rattle.model.specs.Lawful.{counter_ok, message_ok, twin, owned, view_ok, state_ok}
use Rattle.model.specs.declared.Mailbox.{Mailbox}
use Rattle.model.specs.declared.Message.{Message}
use Rattle.model.specs.declared.Session.{Session}
use Rattle.demands.specs.Isolation.Alike.{mails_fit, length-written}
use Rattle.demands.specs.Lasting.Law.{Law, law-mails, law-session, law-enqueue, law-overflow, big, inside}
use Rattle.demands.specs.Lasting.Rows.{all_map, all_imp, apart-filter, apart-map, none-zero, told_next}

-- ---- fewer messages, and changed ones
pub law-drop-mails : (m : Memory) → Law m → (p : Message → Bool) → Law (drop_mails m p)
law-drop-mails m k p = law-mails m k (filterb (λ (e : Message). not (p e)) (mails m))
    (let n = filter-length (λ (e : Message). not (p e)) (mails m) in let f = mails_fit m in omega arith)
    (all_filtered message_ok (λ (e : Message). not (p e)) (mails m) k.mail)
    (apart-filter twin (λ (e : Message). not (p e)) (mails m) k.twins)
    (all_filtered (owned (boxes m)) (λ (e : Message). not (p e)) (mails m) k.owners)
    (all_filtered (state_ok m.session) (λ (e : Message). not (p e)) (mails m) k.states)

-- a change that keeps each message's mailbox and UID, its ranges, what its mailbox says of it, and what its states ask for
pub record Mild (l : List Mailbox) (s : Session) (f : Message → Message) : Type 0 where
  pub mailbox : (e : Message) → (f e).mailbox ≡ e.mailbox
  pub uid : (e : Message) → (f e).uid ≡ e.uid
  pub range : (e : Message) → message_ok e ≡ true → message_ok (f e) ≡ true
  pub owner : (e : Message) → owned l e ≡ true → owned l (f e) ≡ true
  pub state : (e : Message) → state_ok s e ≡ true → state_ok s (f e) ≡ true

pub law-change : (m : Memory) → Law m → (f : Message → Message) → Mild (boxes m) m.session f → Law (change_mails m f)
law-change m k f h = law-mails m k (map f (mails m))
    (let n = length-map (mails m) f in let g = mails_fit m in omega arith)
    (all_map message_ok message_ok f h.range (mails m) k.mail)
    (apart-map twin f (λ x y. λ j. eqb (h.mailbox x j) (h.mailbox y j) && eqb (h.uid x j).0 (h.uid y j).0) (mails m) ∙ k.twins)
    (all_map (owned (boxes m)) (owned (boxes m)) f h.owner (mails m) k.owners)
    (all_map (state_ok m.session) (state_ok m.session) f h.state (mails m) k.states)

-- a change of one message; what its mailbox says of it and what its states ask for need to hold of that one alone
pub one_of : (l : List Mailbox) (s : Session) (i u : ℕ) (g : Message → Message) → ((e : Message) → (g e).mailbox ≡ e.mailbox) → ((e : Message) → (g e).uid ≡ e.uid) → ((e : Message) → message_ok e ≡ true → message_ok (g e) ≡ true)
    → ((e : Message) → is_message i u e ≡ true → owned l e ≡ true → owned l (g e) ≡ true)
    → ((e : Message) → is_message i u e ≡ true → state_ok s e ≡ true → state_ok s (g e) ≡ true) → Mild l s (λ (e : Message). cond (is_message i u e) (g e) e)
one_of l s i u g a b c p d = record {
  mailbox = λ e. mailbox' (is_message i u e) e;
  uid = λ e. uid' (is_message i u e) e;
  range = λ e. range' (is_message i u e) e;
  owner = λ e. owner' e (is_message i u e) refl;
  state = λ e. state' e (is_message i u e) refl;
}
  where
    mailbox' : (b : Bool) (e : Message) → (cond b (g e) e).mailbox ≡ e.mailbox
    mailbox' true e = a e
    mailbox' false e = refl

    uid' : (b : Bool) (e : Message) → (cond b (g e) e).uid ≡ e.uid
    uid' true e = b e
    uid' false e = refl

    range' : (b : Bool) (e : Message) → message_ok e ≡ true → message_ok (cond b (g e) e) ≡ true
    range' true e o = c e o
    range' false e o = o

    owner' : (e : Message) (b : Bool) → is_message i u e ≡ b → owned l e ≡ true → owned l (cond b (g e) e) ≡ true
    owner' e true h o = p e h o
    owner' e false h o = o

    state' : (e : Message) (b : Bool) → is_message i u e ≡ b → state_ok s e ≡ true → state_ok s (cond b (g e) e) ≡ true
    state' e true h o = d e h o
    state' e false h o = o

-- other states, in their range
pub state_range : (e : Message) (n : ℕ) → leb n 2 ≡ true → message_ok e ≡ true → message_ok (with_states e n) ≡ true
state_range e n h o =
    let f = each (leb 1 (uid_of e) ∷ leb e.flags 31 ∷ leb e.size 4294967295 ∷ leb e.states 2 ∷ counter_ok e.counter ∷ []) o in
    all_hold (leb 1 (uid_of e) ∷ leb e.flags 31 ∷ leb e.size 4294967295 ∷ leb n 2 ∷ counter_ok e.counter ∷ []) (f.0, (f.1.0, (f.1.1.0, (h, (f.1.1.1.1.0, tt)))))

-- a message that waits for nothing
pub rest_mild : (l : List Mailbox) (s : Session) → Mild l s (λ (e : Message). with_states e 0)
rest_mild l s = record {
  mailbox = λ e. refl;
  uid = λ e. refl;
  range = λ e o. state_range e 0 refl o;
  owner = λ e o. o;
  state = λ e o. refl;
}

-- ---- what a line ends
announced-ok : (m : Memory) → Law m → Law (announce m)
announced-ok m k = law-session m k (with_view m.session m.session.selected (selected_box m).uidnext) k.fill k.session (seen (eqb m.session.selected 0) refl k.view)
    (all_imp (state_ok m.session) (state_ok (with_view m.session m.session.selected (selected_box m).uidnext)) wider (mails m) k.states)
  where
    n : ℕ
    n = (selected_box m).uidnext

    seen : (b : Bool) → eqb m.session.selected 0 ≡ b → view_ok (boxes m) m.session ≡ true
        → cond (eqb m.session.selected 0) (eqb (selected_box m).uidnext 0) (known m.session.selected (boxes m) && leb (selected_box m).uidnext (selected_box m).uidnext) ≡ true
    seen true z v = rw (z, eqb-true m.session.selected 0 z, none-zero (boxes m) k.box)
    seen false z v = rw (z, le-leb (selected_box m).uidnext (selected_box m).uidnext (omega arith)) (both (known m.session.selected (boxes m)) (and_l (known m.session.selected (boxes m)) _ (rw z at v)))
      where
        both : (c : Bool) → c ≡ true → (c && true) ≡ true
        both true e = refl
        both false e = e

    wider : (e : Message) → state_ok m.session e ≡ true → state_ok (with_view m.session m.session.selected (selected_box m).uidnext) e ≡ true
    wider e = go (eqb e.states 0) (in_mailbox m.session.selected e)
      where
        go : (b c : Bool) → (b || (c && ltb (uid_of e) m.session.told)) ≡ true → (b || (c && ltb (uid_of e) (selected_box m).uidnext)) ≡ true
        go true c o = refl
        go false true o =
            let a = ltb-true (uid_of e) m.session.told o in
            let t = told_next (boxes m) k.box m.session k.view in
            lt-ltb (uid_of e) (selected_box m).uidnext (omega arith)
        go false false o = o

pub law-effect : (m : Memory) → Law m → (l : Line) → Law (effect m l)
law-effect m k (exists n) = announced-ok m k
law-effect m k (expunge n u) = law-drop-mails m k (is_message m.session.selected u.0)
law-effect m k (fetch n u is) = go (shows_flags is)
  where
    go : (b : Bool) → Law (cond b (change_mails m (unmark m.session.selected u.0)) m)
    go true = law-change m k (unmark m.session.selected u.0) (one_of (boxes m) m.session m.session.selected u.0 (λ (e : Message). with_states e 0) (λ e. refl) (λ e. refl) (λ e o. state_range e 0 refl o) (λ e h o. o) (λ e h o. refl))
    go false = k
law-effect m k (status n is) = k
law-effect m k (list c n) = k
law-effect m k (renamed c new old) = k
law-effect m k (found t n v rs) = k
law-effect m k overflow = k
law-effect m k (answer t v r) = k

law-effects : (m : Memory) → Law m → (ls : List Line) → Law (effects m ls)
unfolding effects
law-effects m k [] = k
law-effects m k (l ∷ ls) = law-effects (effect m l) (law-effect m k l) ls

-- ---- a text that fits: with no octet it may stand where no other does
pub law-fits : (m : Memory) → Law m → (x : List ℕ) → leb (length x) (room m) ≡ true → Law (enqueue m x)
law-fits m k x h = go (eqb (length x) 0) refl
  where
    go : (b : Bool) → eqb (length x) 0 ≡ b → Law (enqueue m x)
    go false e =
        let a = leb-true (length x) (room m) h in
        let n : length x ≡ 0 → ⊥ = eqb-false (length x) 0 e in
        law-enqueue m k x (short (length x) n a)
      where
        short : (j : ℕ) → (j ≡ 0 → ⊥) → j ≤ room m → filled m + j ≤ length m.queue - 64
        short zero n a = absurd (n refl)
        short (suc j) n a = omega arith
    go true e =
        let z = eqb-true (length x) 0 e in
        let i = inside m k in
        let n : length (written m.queue (filled m) x) ≡ length m.queue = let w = length-written m.queue (filled m) x in omega arith in
        let f : filled m + length x ≡ filled m = omega arith in
        record {
          size = rw n k.size;
          fill = rw (n, f) k.fill;
          rows = k.rows;
          used = k.used;
          entries = k.entries;
          taken = k.taken;
          box = k.box;
          mail = k.mail;
          session = k.session;
          apartness = k.apartness;
          twins = k.twins;
          owners = k.owners;
          view = k.view;
          states = k.states;
        }

pub law-say : (m : Memory) → Law m → (ls : List Line) → fits m ls ≡ true → Law (say m ls)
law-say m k ls h = law-effects (enqueue m (render_all ls)) (law-fits m k (render_all ls) h) ls

-- as many lines as fit do fit
pub fitting-fits : (free : ℕ) (ls : List Line) → length (render_all (fitting free ls)) ≤ free
unfolding fitting render_all
fitting-fits free [] = omega arith
fitting-fits free (l ∷ ls) = go (leb (length (render l)) free) refl (fitting-fits (free - length (render l)) ls)
  where
    go : (b : Bool) → leb (length (render l)) free ≡ b → length (render_all (fitting (free - length (render l)) ls)) ≤ free - length (render l)
        → length (render_all (cond b (l ∷ fitting (free - length (render l)) ls) [])) ≤ free
    go true e ih =
        let a = leb-true (length (render l)) free e in
        let n = length-append (render l) (render_all (fitting (free - length (render l)) ls)) in
        omega arith
    go false e ih = omega arith

-- ---- an event: its change keeps memory lawful, and touches neither the session nor the queue
pub record Kept (m : Memory) (x : Event) : Type 0 where
  pub law : Law x.stored
  pub session : x.stored.session ≡ m.session
  pub queue : x.stored.queue ≡ m.queue
  pub fill : filled x.stored ≡ filled m

-- silence is lawful
pub law-silence : (m : Memory) → Law m → Law (silence m)
law-silence m k = law-session m k (silenced m.session) (rw (le-leb (filled m) (length m.queue) (inside m k))) refl k.view k.states

-- the overflow line has 37 octets
overflow_short : length (render_all (overflow ∷ [])) ≡ 37
unfolding render_all render
overflow_short = refl

-- an event is told: its lines fit, or a group stands, so that the overflow line has room
pub law_told : (m : Memory) → Law m → (event : Memory → Event) → Kept m (event m) → Kept (silence m) (event (silence m)) → (m.session.groupcount ≡ 0 → (event m).lines ≡ []) → Law (event_outcome m event).after
unfolding tellings settled render_all
law_told m k event now hushed none = go (fits m (event m).lines) refl
  where
    go : (b : Bool) → fits m (event m).lines ≡ b → Law (say (cond b (event m).stored (event (silence m)).stored) (cond b (event m).lines (overflow ∷ [])))
    go true e = law-say (event m).stored now.law (event m).lines (rw (now.queue, now.fill) e)
    go false e = law-effects (enqueue (event (silence m)).stored (render_all (overflow ∷ []))) (spoken (eqb m.session.groupcount 0) refl) (overflow ∷ [])
      where
        spoken : (b : Bool) → eqb m.session.groupcount 0 ≡ b → Law (enqueue (event (silence m)).stored (render_all (overflow ∷ [])))
        spoken true z = tf (fits m (event m).lines) (rw (none (eqb-true m.session.groupcount 0 z)) (leb-zero (room m))) e
        spoken false z =
            let b = big m k in
            let w = overflow_short in
            let f = leb-true (filled m) (length m.queue - 64) (rw z at (and_r (leb (filled m) (length m.queue)) (eqb m.session.groupcount 0 || leb (filled m) (length m.queue - 64)) k.fill)) in
            law-overflow (event (silence m)).stored hushed.law (rw hushed.session) (render_all (overflow ∷ [])) (rw (hushed.queue, hushed.fill) (omega arith))
