-- The reason of a taken call is the account's word for what it owes: kind by kind, and by whether an overflow line was written. Assumes nothing.
use Rattle.std.specs.Prelude.{◌≡◌, List, [], ◌∷◌, ◌++◌, Bool, false, not, cond, ◌&&◌, ◌||◌, ℕ, ◌+◌, eqb}
use Rattle.std.proofs.Math.Path.{refl}
use Rattle.std.proofs.Common.{sym, ◌∙◌, ap, ap₂, eqb-true}
use Rattle.std.proofs.Math.Bool.{true}
use Rattle.model.specs.Lists.{anyb, filterb}
use Rattle.model.specs.Laws.{tf, or_l, and_l, and_r}
use Rattle.model.specs.Names.{Name, has_parent}
use Rattle.model.specs.Records.{Record, create, delete, rename, subscribe, grant, arrive, expunge, reflag, select, ended, command, drained, record_of_none}
use Rattle.model.specs.Memory.{Memory, boxes, name_of, may_list, both_rights, with_attributes, with_name, with_next, with_counter, the_mailbox, selected_box, is_selected, is_message}
use Rattle.model.specs.Groups.{groups_of, is_selecting, is_immediate, asks_new, asks_expunge, asks_flags, asks_name, asks_subscription, selected_asks, immediate_asks, asked_of, number}
use Rattle.model.specs.Lines.{Line}
use Rattle.model.specs.Events.{parent_row, new_box, with_subscribed, with_rights, message, changes_of}
use Rattle.model.specs.Refusals.{absent, stale, wrong_uid}
use Rattle.model.specs.Fates.{arrival, removal, marking, lowest_class, quiet, no_event, not_announced}
use Rattle.model.specs.Seen.{apparent}
use Rattle.model.specs.Due.{Account, waiting, Due, nothing, at_once, later, unless, against, notice, is_quiet, met, name_due, appears, goes, switches, status_due, counts_due, selected_met, arrival_due, removal_due, flags_due, due}
use Rattle.model.specs.Reasons.{met_by, asks_of, plainly, named, elsewhere, in_selected, announced, points}
use Rattle.model.specs.Reasoned.{word_of}
use Rattle.model.specs.declared.Mailbox.{Mailbox}
use Rattle.model.specs.declared.Message.{Message}
use Rattle.model.specs.declared.Group.{Group}
use Rattle.model.specs.declared.Selector.{Selector}
use Rattle.model.specs.declared.Selector.TheVariants.{Selected, Delayed, Inboxes, Personal, Subscribed, Subtree, Mailboxes}
use Rattle.model.specs.declared.Reason.{Reason}
use Rattle.model.specs.declared.Reason.TheVariants.{Quiet, NoEvent, RightMissing, Unmet, Unasked, Unannounced, Waiting, Overflow, Written}
use Rattle.demands.specs.Lasting.Law.{Law}
use Rattle.demands.specs.Ledger.Books.{Books}
use Rattle.demands.specs.Ledger.Messages.{there, seen_by}
use Rattle.demands.specs.Reasons.Numbers.{any_or, any_held, any_wider}
use Rattle.demands.specs.Reasons.Points.{Narrow, asks-meets, either_meets, named-meets, selected-meets}
use Rattle.demands.specs.Reasons.First.{chain}

-- the account's word, by whether an overflow line was written and not by the room; r says that the rights on the selected mailbox are held
abbrev pub worded : (over : Bool) → ℕ → (r : Bool) → Due → Reason
worded over g r d = elim d [ nothing y ↦ word_of y | at_once ls ↦ cond over Overflow (Written g) | later x ↦ cond r (Waiting (lowest_class x)) RightMissing ]

-- ---- by the tests
-- what is told at once or not at all: q quiet, e an event, r the rights, g a group matches, s one asks
at-once : (q e r g s over : Bool) (n : ℕ) (ls : List Line) (b : Bool) → (s ≡ true → g ≡ true)
    → cond q Quiet (cond (not e) NoEvent (cond (not r) RightMissing (cond (not g) Unmet (cond (not s) Unasked (cond over Overflow (Written n))))))
    ≡ worded over n b (unless q quiet (unless (not e) no_event (notice r g s (at_once ls))))
at-once true e r g s over n ls b h = refl
at-once false false r g s over n ls b h = refl
at-once false true false g s over n ls b h = refl
at-once false true true true true over n ls b h = refl
at-once false true true false true over n ls b h = tf false (h refl) refl
at-once false true true true false over n ls b h = refl
at-once false true true false false over n ls b h = refl

-- a new message
new_case : (r g s over : Bool) (n u : ℕ) (ls : List Line) → (s ≡ true → g ≡ true)
    → cond (not r) RightMissing (cond (not (not s) && not g) Unmet (cond (not (not s) && not s) Unasked (cond (not s) (Waiting 0) (cond over Overflow (Written n)))))
    ≡ worded over n r (cond (r && s) (at_once ls) (later (arrival u)))
new_case false g s over n u ls h = refl
new_case true true true over n u ls h = refl
new_case true false true over n u ls h = tf false (h refl) refl
new_case true g false over n u ls h = refl

-- one that is expunged: k says that it is announced, t that it is asked at once
expunge_case : (k r g s t over : Bool) (n u : ℕ) (ls : List Line) → (s ≡ true → g ≡ true) → (t ≡ true → s ≡ true)
    → cond (not r) RightMissing (cond (not (k && not t) && not g) Unmet (cond (not (k && not t) && not s) Unasked
    (cond (not k) Unannounced (cond (k && not t) (Waiting 1) (cond over Overflow (Written n))))))
    ≡ worded over n r (cond (not k) (notice r g s (nothing not_announced)) (cond (r && t) (at_once ls) (later (removal u))))
expunge_case true false g s t over n u ls h j = refl
expunge_case false false g s t over n u ls h j = refl
expunge_case false true true true t over n u ls h j = refl
expunge_case false true false true t over n u ls h j = tf false (h refl) refl
expunge_case false true true false t over n u ls h j = refl
expunge_case false true false false t over n u ls h j = refl
expunge_case true true g s false over n u ls h j = refl
expunge_case true true true true true over n u ls h j = refl
expunge_case true true false true true over n u ls h j = tf false (h refl) refl
expunge_case true true g false true over n u ls h j = tf false (j refl) refl

-- new flags: z says that no NOTIFY was given
flags_case : (k r g s z over : Bool) (n u : ℕ) (ls : List Line) → (s ≡ true → g ≡ true)
    → cond (not r) RightMissing (cond (not (k && (not s && z)) && not g) Unmet (cond (not (k && (not s && z)) && not s) Unasked
    (cond (not k) Unannounced (cond (k && (not s && z)) (Waiting 0) (cond over Overflow (Written n))))))
    ≡ worded over n r (cond (not k) (notice r g s (nothing not_announced)) (cond (r && s) (at_once ls) (cond (r && z) (later (marking u)) (nothing (against r g)))))
flags_case true false g s z over n u ls h = refl
flags_case false false g s z over n u ls h = refl
flags_case false true true true z over n u ls h = refl
flags_case false true false true z over n u ls h = tf false (h refl) refl
flags_case false true true false z over n u ls h = refl
flags_case false true false false z over n u ls h = refl
flags_case true true true true z over n u ls h = refl
flags_case true true false true z over n u ls h = tf false (h refl) refl
flags_case true true g false true over n u ls h = refl
flags_case true true true false false over n u ls h = refl
flags_case true true false false false over n u ls h = refl

-- ---- by the kinds
module _ (m : Memory) (a : Account) (over : Bool) where
  abbrev gs : List Group
  gs = groups_of m.session

  abbrev w : Memory
  w = apparent m

  abbrev r : Bool
  r = both_rights (selected_box m)

  abbrev Says : Record → Type 0
  Says x = chain gs (points m x) over ≡ worded over (number (points m x).asks gs) r (due w a x)

  -- a notice of one mailbox, by one test of whom it meets and one of who asks
  plainly-says : (q e : Bool) (x : Mailbox) (meet ask : Group → Bool) (g s : Bool) (ls : List Line) → anyb meet gs ≡ g → anyb ask gs ≡ s → Narrow meet ask
      → chain gs (plainly m q e x meet ask) over ≡ worded over (number ask gs) r (unless q quiet (unless (not e) no_event (notice (both_rights x) g s (at_once ls))))
  plainly-says q e x meet ask g s ls f h k = rw (f, h) (at-once q e (both_rights x) g s over _ ls r (λ y. sym f ∙ any_wider ask meet k gs (h ∙ y)))

  -- a mailbox that appears or goes
  named-says : (q e : Bool) (x : Mailbox) (l : Line)
      → chain gs (named m q e x) over ≡ worded over (number (named m q e x).asks gs) r (unless q quiet (unless (not e) no_event (name_due w x l)))
  named-says q e x l =
      let y = parent_row (boxes m) x in
      let p = has_parent (name_of x) in
      plainly-says q e x _ _ _ _ _
      (any_or (met_by m x) (λ (g : Group). p && met_by m y g) gs ∙ ap (λ (b : Bool). anyb (met_by m x) gs || b) (any_held p (met_by m y) gs))
      (any_or (asks_of m asks_name x) (λ (g : Group). p && asks_of m asks_name y g) gs ∙ ap (λ (b : Bool). asked_of m.session x asks_name || b) (any_held p (asks_of m asks_name y) gs))
      (named-meets m q e x)

  -- the mailbox events
  says-created : (i b q v c : ℕ) (n : Name) → Says (create i b q v c n)
  unfolding points due
  says-created i b q v c n = named-says (is_quiet q) true (new_box i b v c n) _

  says-deleted : (i q : ℕ) → Says (delete i q)
  unfolding points due
  says-deleted i q = named-says (is_quiet q) true (the_mailbox i (boxes m)) _

  says-renamed : (i q : ℕ) (n : Name) → Says (rename i q n)
  unfolding points due
  says-renamed i q n =
      let x = the_mailbox i (boxes m) in
      let y = with_name x n in
      plainly-says (is_quiet q) true x _ _ _ _ _ (any_or (met_by m x) (met_by m y) gs) (any_or (asks_of m asks_name x) (asks_of m asks_name y) gs) (either_meets m asks_name x y)

  says-subscribed : (i b q : ℕ) → Says (subscribe i b q)
  unfolding points due
  says-subscribed i b q =
      let x = the_mailbox i (boxes m) in
      plainly-says (is_quiet q) (switches x b) x _ _ _ _ _ refl refl (asks-meets m asks_subscription (with_attributes x (with_subscribed x.attributes 1)))

  says-granted : (i b : ℕ) → Says (grant i b)
  unfolding points due
  says-granted i b = go (may_list (the_mailbox i (boxes m))) (may_list (with_rights (the_mailbox i (boxes m)) b))
    where
      x : Mailbox
      x = the_mailbox i (boxes m)

      y : Mailbox
      y = with_rights x b

      go : (c d : Bool) → (let p = cond c (named m false (not d) x) (named m false d y) in
          chain gs p over ≡ worded over (number p.asks gs) r (cond c (cond d (nothing no_event) (goes w x)) (cond d (appears w y) (nothing no_event))))
      go true true = refl
      go true false = named-says false true x _
      go false true = named-says false true y _
      go false false = refl

  -- a message elsewhere
  elsewhere-says : (x : Mailbox) (asks : Group → Bool) (ls : List Line)
      → chain gs (elsewhere m x asks) over
      ≡ worded over (number (asks_of m asks x) gs) r (notice (both_rights x) (met w x.id (name_of x) x.attributes) (asked_of m.session x asks) (at_once ls))
  elsewhere-says x asks ls = plainly-says false true x _ _ _ _ ls refl refl (asks-meets m asks x)

  -- one of the selected mailbox: what is asked is asked by a group that stands
  stands_any : (asks : Group → Bool) → selected_asks m.session asks ≡ true → selected_met w ≡ true
  stands_any asks h = any_wider (λ (g : Group). is_selecting g.selector && asks g) (λ (g : Group). is_selecting g.selector) (selected-meets m asks) gs h

  immediate-selects : (x : Selector) → is_immediate x ≡ true → is_selecting x ≡ true
  immediate-selects Selected h = refl
  immediate-selects Delayed h = refl
  immediate-selects Inboxes h = h
  immediate-selects Personal h = h
  immediate-selects Subscribed h = h
  immediate-selects (Subtree n) h = h
  immediate-selects (Mailboxes n) h = h

  immediate-asks : (asks : Group → Bool) → immediate_asks m.session asks ≡ true → selected_asks m.session asks ≡ true
  immediate-asks asks h = any_wider (λ (g : Group). is_immediate g.selector && asks g) (λ (g : Group). is_selecting g.selector && asks g)
      (λ g e. ap₂ ◌&&◌ (immediate-selects g.selector (and_l (is_immediate g.selector) (asks g) e)) (and_r (is_immediate g.selector) (asks g) e)) gs h

  says-arrived : (i u f z c : ℕ) → Says (arrive i u f z c)
  unfolding points due
  says-arrived i u f z c = go (is_selected m i)
    where
      x : Mailbox
      x = the_mailbox i (boxes m)

      es : List Message
      es = a.kept ++ (message i u f z c ∷ [])

      go : (b : Bool) → (let p = cond b (in_selected m asks_new false (not (selected_asks m.session asks_new)) 0) (elsewhere m x asks_new) in
          let y = with_next (with_counter x c) (u + 1) in
          chain gs p over ≡ worded over (number p.asks gs) r (cond b (arrival_due w a u es) (status_due w y asks_new (counts_due y es))))
      go true = new_case r (selected_met w) (selected_asks m.session asks_new) over _ u _ (stands_any asks_new)
      go false = elsewhere-says x asks_new _

  module _ (k : Law m) (b : Books m a) where
    -- a message that is there is announced just if its arrival does not wait
    known_by : (i u : ℕ) → is_selected m i ≡ true → absent m i u ≡ false → waiting a.fates (arrival u) ≡ not (announced m u)
    known_by i u s h =
        let e : i ≡ m.session.selected = eqb-true i m.session.selected (and_r (not (eqb i 0)) _ s) in
        seen_by m k a b u (there m k a b u (rw e at h)).0

    says-removed : (i u c : ℕ) → absent m i u ≡ false → Says (expunge i u c)
    unfolding points due
    says-removed i u c h = go (is_selected m i) refl
      where
        x : Mailbox
        x = the_mailbox i (boxes m)

        es : List Message
        es = filterb (λ (e : Message). not (is_message i u e)) a.kept

        go : (d : Bool) → is_selected m i ≡ d → (let k = announced m u in
            let p = cond d (in_selected m asks_expunge (not k) (k && not (immediate_asks m.session asks_expunge)) 1) (elsewhere m x asks_expunge) in
            let y = with_counter x c in
            chain gs p over ≡ worded over (number p.asks gs) r (cond d (removal_due w a u) (status_due w y asks_expunge (counts_due y es))))
        go true q = rw (known_by i u q h)
            (expunge_case (announced m u) r (selected_met w) (selected_asks m.session asks_expunge) (immediate_asks m.session asks_expunge) over _ u _
            (stands_any asks_expunge) (immediate-asks asks_expunge))
        go false q = elsewhere-says x asks_expunge _

    says-reflagged : (i u f c : ℕ) → absent m i u ≡ false → Says (reflag i u f c)
    unfolding points due
    says-reflagged i u f c h = go (is_selected m i) refl
      where
        x : Mailbox
        x = the_mailbox i (boxes m)

        go : (d : Bool) → is_selected m i ≡ d → (let k = announced m u in
            let p = cond d (in_selected m asks_flags (not k) (k && (not (selected_asks m.session asks_flags) && eqb m.session.notified 0)) 0) (elsewhere m x asks_flags) in
            let y = with_counter x c in
            chain gs p over ≡ worded over (number p.asks gs) r (cond d (flags_due w a u f c) (status_due w y asks_flags (changes_of y))))
        go true q = rw (known_by i u q h) (flags_case (announced m u) r (selected_met w) (selected_asks m.session asks_flags) (eqb m.session.notified 0) over _ u _ (stands_any asks_flags))
        go false q = elsewhere-says x asks_flags _

    -- every kind
    pub says : (x : Record) → wrong_uid m x ≡ false → Says x
    unfolding points due
    says (create i b q v c n) e = says-created i b q v c n
    says (delete i q) e = says-deleted i q
    says (rename i q n) e = says-renamed i q n
    says (subscribe i b q) e = says-subscribed i b q
    says (grant i b) e = says-granted i b
    says (arrive i u f z c) e = says-arrived i u f z c
    says (expunge i u c) e = says-removed i u c (or_l (absent m i u) (stale m i c) e)
    says (reflag i u f c) e = says-reflagged i u f c (or_l (absent m i u) (stale m i c) e)
    says (select i) e = refl
    says (ended c) e = refl
    says (command t) e = refl
    says (drained n) e = refl
    says record_of_none e = refl
