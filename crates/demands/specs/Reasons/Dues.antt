-- What a record can owe: at once some line, and not none; later a new message, an expunge or new flags, of its own message. Assumes nothing.
use Rattle.std.specs.Prelude.{◌≡◌, refl, List, [], ◌∷◌, ◌++◌, Bool, true, false, cond, ◌&&◌, ◌||◌, ℕ, ◌+◌, ◌≤◌, eqb, length}
use Rattle.std.proofs.Common.{◌∙◌, arith, eq-eqb}
use Rattle.std.proofs.Math.Bool.{not}
use Rattle.model.specs.Lists.{anyb, filterb, when}
use Rattle.model.specs.Laws.{tf, and_r, or_true, any_snoc}
use Rattle.model.specs.Names.{has_parent}
use Rattle.model.specs.Records.{Record, create, delete, rename, subscribe, grant, arrive, expunge, reflag, select, ended, command, drained, record_of_none}
use Rattle.model.specs.Memory.{Memory, boxes, name_of, may_list, both_rights, with_name, with_next, with_counter, the_mailbox, selected_box, is_selected, in_mailbox, is_message, by_uid, messages_of}
use Rattle.model.specs.Groups.{asked, asked_of, selected_asks, asks_new, asks_expunge, asks_flags, asks_name, asks_subscription}
use Rattle.model.specs.Lines.{Line, StatusItem, list, expunge as expunge_line}
use Rattle.model.specs.View.{place_of, flags_line, exists_line}
use Rattle.model.specs.Events.{parent_row, parent_mark, parent_asked, new_box, with_subscribed, with_rights, message, changes_of}
use Rattle.model.specs.Fates.{Debt, arrival, removal, marking, Why, quiet, no_event, not_announced, is_exists}
use Rattle.model.specs.Due.{Account, waiting, viewed, is_new, Due, nothing, at_once, later, unless, against, notice, is_quiet, met, name_due, appears, goes, rename_due, switches, subscription_due, rights_due, status_due, counts_due, selected_met, message_due, new_now, expunge_now, flags_now, flags_later, arrivals, arrival_due, removal_due, flags_due, due}
use Rattle.model.specs.Reasoned.{changes, CanWait, new, gone, flags}
use Rattle.model.specs.declared.Mailbox.{Mailbox}
use Rattle.model.specs.declared.Message.{Message}
use Rattle.model.specs.declared.Group.{Group}
use Rattle.demands.specs.Ledger.Each.{of_two, any_filtered, any_ordered, any_passed}

-- of record x
pub data Sound (x : Record) : Due → Type 0 where
  never : {y : Why} → Sound x (nothing y)
  lines : {ls : List Line} → 1 ≤ length ls → Sound x (at_once ls)
  waits : {d : Debt} → CanWait x d → Sound x (later d)

module _ (x : Record) where
  sound-notice : (r g s : Bool) (d : Due) → (s ≡ true → Sound x d) → Sound x (notice r g s d)
  sound-notice true g true d f = f refl
  sound-notice true g false d f = never
  sound-notice false g s d f = never

  sound-unless : (c : Bool) (y : Why) (d : Due) → Sound x d → Sound x (unless c y d)
  sound-unless true y d f = never
  sound-unless false y d f = f

  -- one line
  sound-cons : (l : Line) (ls : List Line) → Sound x (at_once (l ∷ ls))
  sound-cons l ls = lines {ls = l ∷ ls} (omega arith)

  sound_line : (r g s : Bool) (l : Line) → Sound x (notice r g s (at_once (l ∷ [])))
  sound_line r g s l = sound-notice r g s (at_once (l ∷ [])) (λ _. sound-cons l [])

  module _ (w : Memory) where
    -- a mailbox that appears or goes, or its parent
    sound_name : (y : Mailbox) (l : Line) → Sound x (name_due w y l)
    sound_name y l =
        let z = parent_row (boxes w) y in
        let own = asked_of w.session y asks_name in
        let upper = parent_asked w.session z y in
        sound-notice (both_rights y) (met w y.id (name_of y) y.attributes || (has_parent (name_of y) && met w z.id (name_of z) z.attributes)) (own || upper) _
        (two own upper (list (parent_mark z) (name_of z)))
      where
        two : (a b : Bool) (k : Line) → (a || b) ≡ true → Sound x (at_once (when a l ++ when b k))
        two true b k h = sound-cons l (when b k)
        two false true k h = sound-cons k []
        two false false k h = tf false h refl

    sound-rename : (y z : Mailbox) → Sound x (rename_due w y z)
    sound-rename y z =
        sound_line (both_rights y) (met w y.id (name_of y) y.attributes || met w y.id (name_of z) z.attributes) (asked_of w.session y asks_name || asked_of w.session z asks_name) _

    sound_subscription : (y : Mailbox) (b : ℕ) → Sound x (subscription_due w y b)
    sound_subscription y b =
        let s = with_subscribed y.attributes 1 in
        sound-unless (not (switches y b)) no_event _ (sound_line (both_rights y) (met w y.id (name_of y) s) (asked w.session (name_of y) s asks_subscription) _)

    sound-rights : (y z : Mailbox) → Sound x (rights_due w y z)
    sound-rights y z =
        of_two (Sound x) (may_list y) _ _
        (of_two (Sound x) (may_list z) (nothing no_event) (goes w y) never (sound_name y _))
        (of_two (Sound x) (may_list z) (appears w z) (nothing no_event) (sound_name z _) never)

    sound-status : (y : Mailbox) (asks : Group → Bool) (is : List StatusItem) → Sound x (status_due w y asks is)
    sound-status y asks is = sound_line (both_rights y) (met w y.id (name_of y) y.attributes) (asked_of w.session y asks) _

    sound-nothing : (asks : Group → Bool) (y : Why) → Sound x (message_due w asks (nothing y))
    sound-nothing asks y = sound-notice (both_rights (selected_box w)) (selected_met w) (selected_asks w.session asks) (nothing y) (λ _. never)

-- ---- of a new message
exists_first : (n : ℕ) (l : List Message) (ls : List Line) → anyb (λ (e : Message). true) l ≡ true → anyb is_exists (exists_line n l ++ ls) ≡ true
exists_first n [] ls h = tf false h refl
exists_first n (e ∷ l) ls h = refl

any-length : (p : Line → Bool) (ls : List Line) → anyb p ls ≡ true → 1 ≤ length ls
any-length p [] h = tf false h refl
any-length p (l ∷ ls) h = omega arith

module _ (w : Memory) (a : Account) where
  -- the messages of the selected mailbox with it, and the lines that tell it at once
  abbrev with_new : (i u f z c : ℕ) → List Message
  with_new i u f z c = messages_of w.session.selected (a.kept ++ (message i u f z c ∷ []))

  abbrev pub new_lines : (i u f z c : ℕ) → List Line
  new_lines i u f z c = arrivals w (filterb (λ (e : Message). not (is_new a.fates u e)) (with_new i u f z c)) (filterb (is_new a.fates u) (with_new i u f z c))

  some-new : (i u f z c : ℕ) → is_selected w i ≡ true → anyb (is_new a.fates u) (with_new i u f z c) ≡ true
  some-new i u f z c h =
      let s = w.session.selected in
      let p = is_new a.fates u in
      let e = message i u f z c in
      any_ordered by_uid p (filterb (in_mailbox s) (a.kept ++ (e ∷ [])))
      ∙ (any_filtered p (in_mailbox s) (a.kept ++ (e ∷ []))
      ∙ (any_snoc (λ (d : Message). in_mailbox s d && p d) a.kept e
      ∙ rw (and_r (not (eqb i 0)) _ h, eq-eqb u u refl) (or_true (anyb (λ (d : Message). in_mailbox s d && p d) a.kept))))

  -- an EXISTS is among them
  pub new-exists : (i u f z c : ℕ) → is_selected w i ≡ true → anyb is_exists (new_lines i u f z c) ≡ true
  new-exists i u f z c h =
      exists_first (length (filterb (λ (e : Message). not (is_new a.fates u e)) (with_new i u f z c))) (filterb (is_new a.fates u) (with_new i u f z c)) _
      (any_passed (is_new a.fates u) (with_new i u f z c) ∙ some-new i u f z c h)

  sound-arrived : (i u f z c : ℕ) → is_selected w i ≡ true → Sound (arrive i u f z c) (arrival_due w a u (a.kept ++ (message i u f z c ∷ [])))
  sound-arrived i u f z c h =
      let ls = new_lines i u f z c in
      of_two (Sound (arrive i u f z c)) (new_now w) (at_once ls) (later (arrival u)) (lines (any-length is_exists ls (new-exists i u f z c h))) (waits (new i u f z c refl refl))

  sound-removed : (i u c : ℕ) → Sound (expunge i u c) (removal_due w a u)
  sound-removed i u c =
      let x = expunge i u c in
      let l = expunge_line (place_of u (viewed w a)) (record { 0 = u }) in
      of_two (Sound x) (waiting a.fates (arrival u)) _ _ (sound-nothing x w asks_expunge not_announced)
      (of_two (Sound x) (expunge_now w) (at_once (l ∷ [])) (later (removal u)) (sound-cons x l []) (waits (gone i u c refl refl)))

  sound-reflagged : (i u f c : ℕ) → Sound (reflag i u f c) (flags_due w a u f c)
  sound-reflagged i u f c =
      let x = reflag i u f c in
      let l = flags_line (place_of u (viewed w a)).0 (message w.session.selected u f 0 c) in
      let y = against (both_rights (selected_box w)) (selected_met w) in
      of_two (Sound x) (waiting a.fates (arrival u)) _ _ (sound-nothing x w asks_flags not_announced)
      (of_two (Sound x) (flags_now w) (at_once (l ∷ [])) (cond (flags_later w) (later (marking u)) (nothing y)) (sound-cons x l [])
      (of_two (Sound x) (flags_later w) (later (marking u)) (nothing y) (waits (flags i u f c refl refl)) never))

  -- in the selected mailbox, or elsewhere
  sound-message : (x : Record) (i : ℕ) (d e : Due) → (is_selected w i ≡ true → Sound x d) → Sound x e → Sound x (cond (is_selected w i) d e)
  sound-message x i d e f g = go (is_selected w i) refl
    where
      go : (b : Bool) → is_selected w i ≡ b → Sound x (cond b d e)
      go true h = f h
      go false h = g

  pub sound : (x : Record) → Sound x (due w a x)
  unfolding due
  sound (create i b q v c n) = let x = create i b q v c n in sound-unless x (is_quiet q) quiet _ (sound_name x w (new_box i b v c n) _)
  sound (delete i q) = let x = delete i q in sound-unless x (is_quiet q) quiet _ (sound_name x w (the_mailbox i (boxes w)) _)
  sound (rename i q n) = let x = rename i q n in let y = the_mailbox i (boxes w) in sound-unless x (is_quiet q) quiet _ (sound-rename x w y (with_name y n))
  sound (subscribe i b q) = let x = subscribe i b q in sound-unless x (is_quiet q) quiet _ (sound_subscription x w (the_mailbox i (boxes w)) b)
  sound (grant i b) = let y = the_mailbox i (boxes w) in sound-rights (grant i b) w y (with_rights y b)
  sound (arrive i u f z c) =
      let x = arrive i u f z c in
      let y = with_next (with_counter (the_mailbox i (boxes w)) c) (u + 1) in
      sound-message x i _ _ (sound-arrived i u f z c) (sound-status x w y asks_new (counts_due y (a.kept ++ (message i u f z c ∷ []))))
  sound (expunge i u c) =
      let x = expunge i u c in
      let y = with_counter (the_mailbox i (boxes w)) c in
      sound-message x i _ _ (λ _. sound-removed i u c) (sound-status x w y asks_expunge (counts_due y (filterb (λ (e : Message). not (is_message i u e)) a.kept)))
  sound (reflag i u f c) =
      let x = reflag i u f c in
      let y = with_counter (the_mailbox i (boxes w)) c in
      sound-message x i _ _ (λ _. sound-reflagged i u f c) (sound-status x w y asks_flags (changes_of y))
  sound (select i) = never
  sound (ended c) = never
  sound (command t) = never
  sound (drained n) = never
  sound record_of_none = never

-- what is no change is no event
pub no-event : (w : Memory) (a : Account) (x : Record) → changes x ≡ false → due w a x ≡ nothing no_event
unfolding due
no-event w a (create i b q v c n) h = tf true refl h
no-event w a (delete i q) h = tf true refl h
no-event w a (rename i q n) h = tf true refl h
no-event w a (subscribe i b q) h = tf true refl h
no-event w a (grant i b) h = tf true refl h
no-event w a (arrive i u f z c) h = tf true refl h
no-event w a (expunge i u c) h = tf true refl h
no-event w a (reflag i u f c) h = tf true refl h
no-event w a (select i) h = refl
no-event w a (ended c) h = refl
no-event w a (command t) h = refl
no-event w a (drained n) h = refl
no-event w a record_of_none h = refl

-- what it says
pub some-lines : {x : Record} {ls : List Line} → Sound x (at_once ls) → 1 ≤ length ls
some-lines (lines h) = h

pub can_wait : {x : Record} {d : Debt} → Sound x (later d) → CanWait x d
can_wait (waits h) = h
