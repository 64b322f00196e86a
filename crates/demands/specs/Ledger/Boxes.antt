-- One taken call: a record about a mailbox. Assumes nothing.
use Rattle.std.specs.Prelude.{◌≡◌, Bool, true, false, cond, ◌&&◌, ◌||◌, ℕ, eqb}
use Rattle.std.proofs.Math.Path.{refl, ap}
use Rattle.std.proofs.Common.{sym, ◌∙◌}
use mathlib.Core.List.{List, [], ◌∷◌, ◌++◌, map}
use Rattle.std.proofs.Math.Bool.{not}
use Rattle.model.specs.Lists.{filterb, when}
use Rattle.model.specs.Laws.{filter_map}
use Rattle.model.specs.Names.{Name, has_parent}
use Rattle.model.specs.Records.{Record, create, delete, rename, subscribe, grant}
use Rattle.model.specs.Memory.{Memory, boxes, mails, name_of, may_list, selectable, both_rights, known, the_mailbox, is_selected, is_message, in_mailbox, with_name, drop_box, drop_mails}
use Rattle.model.specs.Groups.{asked, asked_of, asks_name, asks_subscription}
use Rattle.model.specs.Lines.{Line, list, renamed, plain, noselect, non_existent, subscribed}
use Rattle.model.specs.Events.{Event, loud, create_lines, delete_lines, parent_row, parent_mark, parent_asked, parent_lines, rename_lines, subscription_lines, rights_lines, list_mark, new_box, created, deleted, renamed_to, subscribed_to, granted, with_subscribed, with_rights, silence}
use Rattle.model.specs.Rules.{rested, event_outcome}
use Rattle.demands.specs.Lasting.Law.{Law}
use Rattle.demands.specs.Isolation.Alike.{mails_with}
use Rattle.model.specs.declared.Mailbox.{Mailbox}
use Rattle.model.specs.declared.Message.{Message}
use Rattle.model.specs.Fates.{quiet, no_event, Fate}
use Rattle.model.specs.Seen.{apparent}
use Rattle.model.specs.Due.{Account, Due, nothing, at_once, unless, notice, is_quiet, met, name_due, appears, goes, rename_due, switches, subscription_due, rights_due, due}
use Rattle.model.specs.Account.{due_lines, kept_by, owed_now}
use Rattle.demands.specs.Ledger.Each.{All, none, also}
use Rattle.demands.specs.Ledger.Books.{Books}
use Rattle.demands.specs.Ledger.Steps.{Unending, Step, once}
use Rattle.demands.specs.Ledger.Plain.{PlainLine, Plain, plain-notice, plain-unless, Elsewhere, plain_step, notice-lines, unmoved, drop-elsewhere}
use Rattle.demands.specs.Ledger.Reach.{not_selected, not_of}

-- a record that is not quiet
loud-lines : (q : ℕ) (ls : List Line) (d : Due) → ls ≡ once d → loud q ls ≡ once (unless (is_quiet q) quiet d)
loud-lines q ls d e = go (eqb q 0)
  where
    go : (c : Bool) → cond c ls [] ≡ once (unless (not c) quiet d)
    go true = e
    go false = refl

-- a LIST line is plain, whatever its attribute but \NoAccess
plain-mark : (x : Mailbox) (n : Name) → All PlainLine (list (list_mark x) n ∷ [])
plain-mark x n = go (selectable x)
  where
    go : (c : Bool) → All PlainLine (list (cond c plain noselect) n ∷ [])
    go true = also ((refl, refl), refl) none
    go false = also ((refl, refl), refl) none

plain_state : (c : Bool) (n : Name) → All PlainLine (list (cond c subscribed plain) n ∷ [])
plain_state true n = also ((refl, refl), refl) none
plain_state false n = also ((refl, refl), refl) none

-- ---- what each owes: the lines of the event, which are plain
module _ (w : Memory) (x : Mailbox) where
  abbrev y : Mailbox
  y = parent_row (boxes w) x

  abbrev upper : Line
  upper = list (parent_mark y) (name_of y)

  abbrev one_met : Bool
  one_met = met w x.id (name_of x) x.attributes || (has_parent (name_of x) && met w y.id (name_of y) y.attributes)

  abbrev one_asked : Bool
  one_asked = asked_of w.session x asks_name || parent_asked w.session y x

  name-lines : (l : Line) → when (both_rights x && asked_of w.session x asks_name) l ++ parent_lines w.session y x ≡ once (name_due w x l)
  name-lines l = go (both_rights x) (asked_of w.session x asks_name) (parent_asked w.session y x) one_met
    where
      go : (r a b g : Bool) → when (r && a) l ++ when (r && b) upper ≡ once (notice r g (a || b) (at_once (when a l ++ when b upper)))
      go true true b g = refl
      go true false true g = refl
      go true false false g = refl
      go false a b g = refl

  plain-upper : All PlainLine (upper ∷ [])
  plain-upper = go (may_list y) (selectable y)
    where
      go : (c d : Bool) → All PlainLine (list (cond c (cond d plain noselect) non_existent) (name_of y) ∷ [])
      go true true = also ((refl, refl), refl) none
      go true false = also ((refl, refl), refl) none
      go false d = also ((refl, refl), refl) none

  name_plain : (l : Line) → All PlainLine (l ∷ []) → Plain (name_due w x l)
  name_plain l p = plain-notice (both_rights x) one_met one_asked _ (go (asked_of w.session x asks_name) (parent_asked w.session y x) p plain-upper)
    where
      go : (a b : Bool) → All PlainLine (l ∷ []) → All PlainLine (upper ∷ []) → All PlainLine (when a l ++ when b upper)
      go true true (also h none) q = also h q
      go true false h q = h
      go false true h q = q
      go false false h q = none

  appears-lines : create_lines w.session x ++ parent_lines w.session y x ≡ once (appears w x)
  appears-lines = name-lines (list (list_mark x) (name_of x))

  appears_plain : Plain (appears w x)
  appears_plain = name_plain (list (list_mark x) (name_of x)) (plain-mark x (name_of x))

  goes_lines : delete_lines w.session x ++ parent_lines w.session y x ≡ once (goes w x)
  goes_lines = name-lines (list non_existent (name_of x))

  goes_plain : Plain (goes w x)
  goes_plain = name_plain (list non_existent (name_of x)) (also ((refl, refl), refl) none)

  -- a change of subscription
  subscription-lines : (b : ℕ) → subscription_lines w.session x b ≡ once (subscription_due w x b)
  subscription-lines b =
      differing (switches x b) (both_rights x) (met w x.id (name_of x) s) (asked w.session (name_of x) s asks_subscription)
      (list (cond (eqb b 1) subscribed plain) (name_of x))
    where
      s : ℕ
      s = with_subscribed x.attributes 1

      differing : (c r g a : Bool) (l : Line) → when (c && (r && a)) l ≡ once (unless (not c) no_event (notice r g a (at_once (l ∷ []))))
      differing true r g a l = notice-lines r g a l
      differing false r g a l = refl

  subscription_plain : (b : ℕ) → Plain (subscription_due w x b)
  subscription_plain b =
      let s = with_subscribed x.attributes 1 in
      let ls = list (cond (eqb b 1) subscribed plain) (name_of x) ∷ [] in
      let r = met w x.id (name_of x) s in
      let q = asked w.session (name_of x) s asks_subscription in
      plain-unless (not (switches x b)) no_event (notice (both_rights x) r q (at_once ls)) (plain-notice (both_rights x) r q (at_once ls) (plain_state (eqb b 1) (name_of x)))

-- a rename to y, and rights that become y's
module _ (w : Memory) (x y : Mailbox) where
  abbrev either_met : Bool
  either_met = met w x.id (name_of x) x.attributes || met w x.id (name_of y) y.attributes

  abbrev either_asked : Bool
  either_asked = asked_of w.session x asks_name || asked_of w.session y asks_name

  rename-lines : rename_lines w.session x y ≡ once (rename_due w x y)
  rename-lines = notice-lines (both_rights x) either_met either_asked (renamed (list_mark x) (name_of y) (name_of x))

  rename_plain : Plain (rename_due w x y)
  rename_plain = plain-notice (both_rights x) either_met either_asked (at_once (renamed (list_mark x) (name_of y) (name_of x) ∷ [])) (also ((refl, refl), refl) none)

  rights_plain : Plain (rights_due w x y)
  rights_plain = go (may_list x) (may_list y)
    where
      go : (c d : Bool) → Plain (cond c (cond d (nothing no_event) (goes w x)) (cond d (appears w y) (nothing no_event)))
      go true true = tt
      go true false = goes_plain w x
      go false true = appears_plain w y
      go false false = tt

  rights-lines : parent_row (boxes w) x ≡ parent_row (boxes w) y → rights_lines w.session (parent_row (boxes w) x) x y ≡ once (rights_due w x y)
  rights-lines e = go (may_list x) (may_list y)
    where
      go : (c d : Bool) → cond c (cond d [] (delete_lines w.session x ++ parent_lines w.session (parent_row (boxes w) x) x)) (cond d (create_lines w.session y ++ parent_lines w.session (parent_row (boxes w) x) y) [])
          ≡ once (cond c (cond d (nothing no_event) (goes w x)) (cond d (appears w y) (nothing no_event)))
      go true true = refl
      go true false = goes_lines w x
      go false true = ap (λ (p : Mailbox). create_lines w.session y ++ parent_lines w.session p y) e ∙ appears-lines w y
      go false false = refl

-- ---- the five records
module _ (m : Memory) (k : Law m) (a : Account) (b : Books m a) where
  -- an event that touches no message
  quietly : (r : Record) (event : Memory → Event) → (event m).lines ≡ once (due (apparent m) a r) → ((w : Memory) → Plain (due w a r))
      → ((ls : List Line) → owed_now (apparent m) a r ls ≡ due_lines (apparent m) (due (apparent m) a r)) → Unending (apparent m) r
      → Elsewhere m (event m).stored → Elsewhere m (event (silence m)).stored
      → ((f : Fate) (ls : List Line) → kept_by (apparent m) a r f ls ≡ map rested (mails (event m).stored))
      → ((f : Fate) (ls : List Line) → kept_by (apparent m) a r f ls ≡ map rested (mails (event (silence m)).stored))
      → Step m a r (event_outcome m event)
  quietly r event e p o d x y s t = plain_step m a b r event e (p (apparent m)) (p (silence (apparent m))) o d x y (λ f ls _. s f ls) (λ f ls _. t f ls)

  pub created-step : (i c q v h : ℕ) (n : Name) → Step m a (create i c q v h n) (event_outcome m (λ (x : Memory). created x i c q v h n))
  unfolding due owed_now
  created-step i c q v h n =
      let x = new_box i c v h n in
      quietly (create i c q v h n) (λ (k : Memory). created k i c q v h n) (loud-lines q _ (appears (apparent m) x) (appears-lines (apparent m) x))
      (λ w. plain-unless (is_quiet q) quiet (appears w x) (appears_plain w x))
      (λ ls. refl) (λ d. refl) (unmoved m _ refl refl refl) (unmoved m _ refl refl refl) (λ f ls. b.kept) (λ f ls. b.kept)

  pub renamed_step : (i q : ℕ) (n : Name) → Step m a (rename i q n) (event_outcome m (λ (x : Memory). renamed_to x i q n))
  unfolding due owed_now
  renamed_step i q n =
      let x = the_mailbox i (boxes m) in
      quietly (rename i q n) (λ (h : Memory). renamed_to h i q n) (loud-lines q _ (rename_due (apparent m) x (with_name x n)) (rename-lines (apparent m) x (with_name x n)))
      (λ w. let y = the_mailbox i (boxes w) in plain-unless (is_quiet q) quiet (rename_due w y (with_name y n)) (rename_plain w y (with_name y n)))
      (λ ls. refl) (λ d. refl) (unmoved m _ refl refl refl) (unmoved m _ refl refl refl) (λ f ls. b.kept) (λ f ls. b.kept)

  pub subscribed-step : (i c q : ℕ) → Step m a (subscribe i c q) (event_outcome m (λ (x : Memory). subscribed_to x i c q))
  unfolding due owed_now
  subscribed-step i c q =
      let x = the_mailbox i (boxes m) in
      quietly (subscribe i c q) (λ (h : Memory). subscribed_to h i c q) (loud-lines q _ (subscription_due (apparent m) x c) (subscription-lines (apparent m) x c))
      (λ w. let y = the_mailbox i (boxes w) in plain-unless (is_quiet q) quiet (subscription_due w y c) (subscription_plain w y c))
      (λ ls. refl) (λ d. refl) (unmoved m _ refl refl refl) (unmoved m _ refl refl refl) (λ f ls. b.kept) (λ f ls. b.kept)

  pub granted-step : (i r : ℕ) → Step m a (grant i r) (event_outcome m (λ (x : Memory). granted x i r))
  unfolding due owed_now
  granted-step i r =
      let x = the_mailbox i (boxes m) in
      quietly (grant i r) (λ (h : Memory). granted h i r) (rights-lines (apparent m) x (with_rights x r) refl)
      (λ w. let y = the_mailbox i (boxes w) in rights_plain w y (with_rights y r))
      (λ ls. refl) (λ d. refl) (unmoved m _ refl refl refl) (unmoved m _ refl refl refl) (λ f ls. b.kept) (λ f ls. b.kept)

  -- its messages go with it; it is not the selected one
  pub deleted-step : (i q : ℕ) → known i (boxes m) ≡ true → is_selected m i ≡ false → Step m a (delete i q) (event_outcome m (λ (x : Memory). deleted x i q))
  unfolding due owed_now
  deleted-step i q h n =
      let x = the_mailbox i (boxes m) in
      quietly (delete i q) (λ (g : Memory). deleted g i q) (loud-lines q _ (goes (apparent m) x) (goes_lines (apparent m) x))
      (λ w. let y = the_mailbox i (boxes w) in plain-unless (is_quiet q) quiet (goes w y) (goes_plain w y))
      (λ ls. refl) (λ d. refl) (away m refl refl refl) (away (silence m) refl refl refl)
      (λ f ls. left ∙ ap (map rested) (sym (fewer m))) (λ f ls. left ∙ ap (map rested) (sym (fewer (silence m))))
    where
      rest : List Message
      rest = filterb (λ (e : Message). not (in_mailbox i e)) (mails m)

      fewer : (x : Memory) → mails (drop_mails (drop_box x i) (in_mailbox i)) ≡ filterb (λ (e : Message). not (in_mailbox i e)) (mails x)
      fewer x = mails_with (drop_box x i) (filterb (λ (e : Message). not (in_mailbox i e)) (mails x))

      others : (u : ℕ) (e : Message) → is_message m.session.selected u e ≡ true → not (in_mailbox i e) ≡ true
      others u e g = rw (not_of m.session.selected i (not_selected m k i h n) u e g)

      away : (x : Memory) → mails x ≡ mails m → x.session.selected ≡ m.session.selected → x.session.told ≡ m.session.told → Elsewhere m (drop_mails (drop_box x i) (in_mailbox i))
      away x e s t = drop-elsewhere m (drop_mails (drop_box x i) (in_mailbox i)) (λ (d : Message). not (in_mailbox i d)) (fewer x ∙ ap (filterb (λ (d : Message). not (in_mailbox i d))) e) s t others

      left : filterb (λ (e : Message). not (in_mailbox i e)) a.kept ≡ map rested rest
      left = rw b.kept (filter_map rested (λ (e : Message). not (in_mailbox i e)) (λ e. refl) (mails m))
