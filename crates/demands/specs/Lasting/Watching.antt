-- An accepted NOTIFY leaves groups and names that refusal 1 takes as lawful (01, Records, 22; Commands, 20). Assumes nothing.
use Rattle.std.specs.Prelude.{◌≡◌, refl, List, [], ◌∷◌, map, Bool, true, false, not, cond, ◌&&◌, ◌||◌, ℕ, zero, suc, ◌+◌, ◌-◌, ◌*◌, ◌/◌, ◌%◌, ◌≤◌, ◌<◌, eqb, leb, ltb, length, get_or, replicate}
use Rattle.std.proofs.Common.{◌∙◌, ap, arith, ltb-false, eq-eqb, ne_eqb, le-leb, length-append, take_at, drop_at}
use Rattle.std.proofs.lemmas.Bool.{not-false}
use Rattle.std.proofs.lemmas.List.{length-map}
use Rattle.model.specs.Lists.{keep, filterb, anyb, allb, apart, concat_map}
use Rattle.model.specs.Laws.{tf, or_l, or_r, or_true, and_l, and_r, and_false}
use Rattle.model.specs.Text.{bit, one, pack}
use Rattle.model.specs.Names.{valid, fold}
use Rattle.model.specs.Requests.{Filter, selected, delayed, inboxes, personal, subscribed, subtree, subtree_one, mailboxes, names_of, of_selected, Asked, Command, notify_set}
use Rattle.model.specs.Requests.{Event, message_new, message_expunge, flag_change, annotation_change, mailbox_name, subscription_change, other_event, is_new, is_expunge, is_flag_change, is_mailbox_name, is_subscription_change, attributes_of, Attribute}
use Rattle.model.specs.Reading.{ok}
use Rattle.model.specs.declared.Limits.{Limits}
use Rattle.model.specs.Limits.{limits, command_too_large, name_count as asked}
use Rattle.model.specs.Answers.{reply_number}
use Rattle.model.specs.Replies.{reply_of, refused, bad_event, not_supported, bad_charset, selected_group, selected_twice, message_event, misplaced_event, has_attributes, misplaced_attributes, unpaired}
use Rattle.model.specs.Memory.{no_group, no_name}
use Rattle.model.specs.Groups.{group_of, selector_of, is_selecting}
use Rattle.model.specs.Requests.{is_uid_attribute, is_flags_attribute, is_size_attribute}
use Rattle.model.specs.Listing.{selector_number, attribute_bits, lend_group, lend_groups, lend_name, all_names, watching}
use Rattle.model.specs.Lawful.{session_ok, events_ok, attributes_ok, range_ok, group_ok, groups_ok, lent_name_count, lent_name_ok, blank_group, blank_name, both_selecting}
use Rattle.model.specs.declared.NameRange.{NameRange}
use Rattle.model.specs.declared.Group.{Group}
use Rattle.model.specs.declared.LentGroup.{LentGroup}
use Rattle.model.specs.declared.LentName.{LentName}
use Rattle.model.specs.declared.Session.{Session}
use Rattle.model.specs.declared.Reply.{Reply}
use Rattle.model.specs.declared.Reply.TheVariants.{Bad, BadEvent, Unsupported, BadCharset, TooLarge, Accepted}
use Rattle.demands.specs.Lasting.NameLaws.{valid_short, fold-valid, fold-fold, name-stored, rest-stored}

-- ---- bits: the number with these bits has them
half : (b : Bool) (n : ℕ) → (one b + 2 * n) / 2 ≡ n
half true n = omega arith
half false n = omega arith

odd : (b : Bool) (n : ℕ) → eqb ((one b + 2 * n) % 2) 1 ≡ b
odd true n = eq-eqb ((1 + 2 * n) % 2) 1 (omega arith)
odd false n = ne_eqb ((0 + 2 * n) % 2) 1 (λ (e : (0 + 2 * n) % 2 ≡ 1). omega arith)

pub bit-pack : (k : ℕ) (bs : List Bool) → bit k (pack bs) ≡ get_or bs k false
bit-pack zero [] = refl
bit-pack zero (b ∷ bs) = odd b (pack bs)
bit-pack (suc k) [] = bit-pack k []
bit-pack (suc k) (b ∷ bs) = rw (half b (pack bs)) (bit-pack k bs)

-- five of them make at most 31, three at most 7
one_most : (b : Bool) → one b ≤ 1
one_most true = omega arith
one_most false = omega arith

most_5 : (a b c d e : Bool) → leb (pack (a ∷ b ∷ c ∷ d ∷ e ∷ [])) 31 ≡ true
most_5 a b c d e = le-leb (pack (a ∷ b ∷ c ∷ d ∷ e ∷ [])) 31 (omega (arith, one_most a, one_most b, one_most c, one_most d, one_most e))

most_3 : (a b c : Bool) → leb (pack (a ∷ b ∷ c ∷ [])) 7 ≡ true
most_3 a b c = le-leb (pack (a ∷ b ∷ c ∷ [])) 7 (omega (arith, one_most a, one_most b, one_most c))

-- ---- lists
module _ {A : Type 0} where
  -- none passes a test that is narrower than one that none passes
  none_narrower : (p q : A → Bool) → ((x : A) → q x ≡ false → p x ≡ false) → (l : List A) → anyb q l ≡ false → anyb p l ≡ false
  none_narrower p q h [] e = refl
  none_narrower p q h (x ∷ l) e = rw (h x (or_l (q x) _ e)) (none_narrower p q h l (or_r (q x) _ e))

  -- a list that is not longer than 0
  no_longer : (l : List A) → ltb 0 (length l) ≡ false → l ≡ []
  no_longer [] e = refl
  no_longer (x ∷ l) e = let z = ltb-false 0 (suc (length l)) e in absurd (let n : ⊥ = omega arith in n)

  all_replicate : (p : A → Bool) (k : ℕ) (x : A) → p x ≡ true → allb p (replicate k x) ≡ true
  all_replicate p zero x e = refl
  all_replicate p (suc k) x e = rw e (all_replicate p k x e)

module _ {A B : Type 0} where
  -- where none passes, nothing is put for any
  concat_none : (f : A → List B) (p : A → Bool) → ((x : A) → p x ≡ false → f x ≡ []) → (l : List A) → anyb p l ≡ false → concat_map f l ≡ []
  concat_none f p h [] e = refl
  concat_none f p h (x ∷ l) e = rw (h x (or_l (p x) _ e)) (concat_none f p h l (or_r (p x) _ e))

-- ---- one event
-- an event that is not about messages is none of these
not-message : (e : Event) → message_event e ≡ false → (is_new e ≡ false) × (is_expunge e ≡ false) × (is_flag_change e ≡ false)
not-message (message_new l) h = (h, refl, refl)
not-message message_expunge h = (refl, h, refl)
not-message flag_change h = (refl, refl, h)
not-message annotation_change h = (refl, refl, refl)
not-message mailbox_name h = (refl, refl, refl)
not-message subscription_change h = (refl, refl, refl)
not-message other_event h = (refl, refl, refl)

-- and one that is about messages is none of those
not_mailbox : (e : Event) → not (message_event e) ≡ false → (is_mailbox_name e ≡ false) × (is_subscription_change e ≡ false)
not_mailbox (message_new l) h = (refl, refl)
not_mailbox message_expunge h = (refl, refl)
not_mailbox flag_change h = (refl, refl)
not_mailbox annotation_change h = (refl, refl)
not_mailbox mailbox_name h = (h, refl)
not_mailbox subscription_change h = (refl, h)
not_mailbox other_event h = (refl, refl)

-- MessageNew alone has attributes
not_new : (e : Event) → is_new e ≡ false → attributes_of e ≡ []
not_new (message_new l) h = tf true refl h
not_new message_expunge h = refl
not_new flag_change h = refl
not_new annotation_change h = refl
not_new mailbox_name h = refl
not_new subscription_change h = refl
not_new other_event h = refl

-- ---- one group
-- a filter and its selector speak of the selected mailbox alike
selecting : (f : Filter) (r : NameRange) → is_selecting (selector_of (selector_number f) r) ≡ of_selected f
selecting selected r = refl
selecting delayed r = refl
selecting inboxes r = refl
selecting personal r = refl
selecting subscribed r = refl
selecting (subtree n ns) r = refl
selecting (subtree_one n ns) r = refl
selecting (mailboxes n ns) r = refl

selector_most : (f : Filter) → leb (selector_number f) 6 ≡ true
selector_most selected = refl
selector_most delayed = refl
selector_most inboxes = refl
selector_most personal = refl
selector_most subscribed = refl
selector_most (subtree n ns) = refl
selector_most (subtree_one n ns) = refl
selector_most (mailboxes n ns) = refl

-- one name or more, from k on
named : (k m : ℕ) → (eqb (cond (eqb (suc m) 0) 0 k) k && leb 1 (suc m)) ≡ true
named k m = rw (ne_eqb (suc m) 0 (λ (e : suc m ≡ 0). omega arith), eq-eqb k k refl) (le-leb 1 (suc m) (omega arith))

range-ok : (k : ℕ) (f : Filter) (es : List Event) → range_ok k (lend_group k (record { filter = f; events = es })) ≡ true
range-ok k selected es = refl
range-ok k delayed es = refl
range-ok k inboxes es = refl
range-ok k personal es = refl
range-ok k subscribed es = refl
range-ok k (subtree n ns) es = named k (length ns)
range-ok k (subtree_one n ns) es = named k (length ns)
range-ok k (mailboxes n ns) es = named k (length ns)

-- which events are asked, in the order of their bits
abbrev kinds : List Event → List Bool
kinds es = anyb is_new es ∷ anyb is_expunge es ∷ anyb is_flag_change es ∷ anyb is_mailbox_name es ∷ anyb is_subscription_change es ∷ []

-- message events come paired
module _ (es : List Event) (h : (anyb message_event es && not (anyb is_new es && anyb is_expunge es)) ≡ false) where
  both : anyb message_event es ≡ true → (anyb is_new es && anyb is_expunge es) ≡ true
  both e = not-false (anyb is_new es && anyb is_expunge es) (rw e at h)

  paired : cond (anyb is_new es) (anyb is_expunge es) (not (anyb is_expunge es)) ≡ true
  paired = go (anyb message_event es) refl
    where
      go : (m : Bool) → anyb message_event es ≡ m → cond (anyb is_new es) (anyb is_expunge es) (not (anyb is_expunge es)) ≡ true
      go true e = rw (and_l (anyb is_new es) (anyb is_expunge es) (both e)) (and_r (anyb is_new es) (anyb is_expunge es) (both e))
      go false e = rw (none_narrower is_new message_event (λ x f. (not-message x f).0) es e, none_narrower is_expunge message_event (λ x f. (not-message x f).1) es e)

  with_both : (not (anyb is_flag_change es) || anyb is_new es) ≡ true
  with_both = go (anyb message_event es) refl
    where
      go : (m : Bool) → anyb message_event es ≡ m → (not (anyb is_flag_change es) || anyb is_new es) ≡ true
      go true e = rw (and_l (anyb is_new es) (anyb is_expunge es) (both e)) (or_true (not (anyb is_flag_change es)))
      go false e = rw (none_narrower is_flag_change message_event (λ x f. (not-message x f).2) es e)

-- a selected group asks for no mailbox event
no_mailbox_lem : (s : Bool) (es : List Event) → (s && anyb (λ (e : Event). not (message_event e)) es) ≡ false → (not s || (not (anyb is_mailbox_name es) && not (anyb is_subscription_change es))) ≡ true
no_mailbox_lem true es h = rw (none_narrower is_mailbox_name (λ (e : Event). not (message_event e)) (λ x f. (not_mailbox x f).0) es h, none_narrower is_subscription_change (λ (e : Event). not (message_event e)) (λ x f. (not_mailbox x f).1) es h)
no_mailbox_lem false es h = refl

module _ (k : ℕ) (g : Asked) where
  chosen : is_selecting (group_of (lend_group k g)).selector ≡ selected_group g
  chosen = selecting g.filter (record { first = cond (eqb (length (names_of g.filter)) 0) 0 k; count = length (names_of g.filter) })

  events-ok : misplaced_event g ≡ false → unpaired g ≡ false → events_ok (group_of (lend_group k g)) ≡ true
  events-ok me up = rw (
    most_5 (anyb is_new g.events) (anyb is_expunge g.events) (anyb is_flag_change g.events) (anyb is_mailbox_name g.events) (anyb is_subscription_change g.events),
    bit-pack 0 (kinds g.events),
    bit-pack 1 (kinds g.events),
    bit-pack 2 (kinds g.events),
    bit-pack 3 (kinds g.events),
    bit-pack 4 (kinds g.events),
    chosen,
    paired g.events up,
    with_both g.events up,
    no_mailbox_lem (selected_group g) g.events me,
  )

  -- attributes stand with MessageNew in a selected group
  attributes-ok : misplaced_attributes g ≡ false → attributes_ok (group_of (lend_group k g)) ≡ true
  attributes-ok ma = rw (most_3 (anyb is_uid_attribute l) (anyb is_flags_attribute l) (anyb is_size_attribute l), chosen, bit-pack 0 (kinds g.events)) (go (selected_group g) refl (anyb is_new g.events) refl)
    where
      l : List Attribute
      l = concat_map attributes_of g.events

      go : (s : Bool) → selected_group g ≡ s → (n : Bool) → anyb is_new g.events ≡ n → (eqb (attribute_bits l) 0 || (s && n)) ≡ true
      go true e true f = or_true (eqb (attribute_bits l) 0)
      go true e false f = rw (concat_none attributes_of is_new not_new g.events f)
      go false e n f = rw (concat_none attributes_of has_attributes (λ x z. no_longer (attributes_of x) z) g.events (rw e at ma))

  group-ok : misplaced_event g ≡ false → misplaced_attributes g ≡ false → unpaired g ≡ false → group_ok k (lend_group k g) ≡ true
  group-ok me ma up = rw (selector_most g.filter, range-ok k g.filter g.events, events-ok me up) (attributes-ok ma)

-- ---- all groups
groups-ok : (k : ℕ) (gs : List Asked) → anyb misplaced_event gs ≡ false → anyb misplaced_attributes gs ≡ false → anyb unpaired gs ≡ false → groups_ok k (lend_groups k gs) ≡ true
groups-ok k [] me ma up = refl
groups-ok k (g ∷ gs) me ma up =
    rw (group-ok k g (or_l (misplaced_event g) _ me) (or_l (misplaced_attributes g) _ ma) (or_l (unpaired g) _ up))
    (groups-ok (k + length (names_of g.filter)) gs (or_r (misplaced_event g) _ me) (or_r (misplaced_attributes g) _ ma) (or_r (unpaired g) _ up))

length_groups : (k : ℕ) (gs : List Asked) → length (lend_groups k gs) ≡ length gs
length_groups k [] = refl
length_groups k (g ∷ gs) = ap suc (length_groups (k + length (names_of g.filter)) gs)

-- none of them is a selected one, so x and no other are two
no_other : (x : Group) (k : ℕ) (gs : List Asked) → length (filterb selected_group gs) ≤ 0 → anyb (λ (y : Group). both_selecting x y) (map group_of (lend_groups k gs)) ≡ false
no_other x k [] h = refl
no_other x k (g ∷ gs) h = go (selected_group g) refl h (no_other x (k + length (names_of g.filter)) gs)
  where
    rest : Bool
    rest = anyb (λ (y : Group). both_selecting x y) (map group_of (lend_groups (k + length (names_of g.filter)) gs))

    go : (b : Bool) → selected_group g ≡ b → length (keep b g (filterb selected_group gs)) ≤ 0 → (length (filterb selected_group gs) ≤ 0 → rest ≡ false) → (both_selecting x (group_of (lend_group k g)) || rest) ≡ false
    go true e l ih = absurd (let n : ⊥ = omega arith in n)
    go false e l ih = rw (chosen k g, e, and_false (is_selecting x.selector)) (ih l)

-- x is no selected one, so x and no other are two
unlike : (x : Group) (l : List Group) → is_selecting x.selector ≡ false → anyb (λ (y : Group). both_selecting x y) l ≡ false
unlike x [] e = refl
unlike x (y ∷ l) e = rw e (unlike x l e)

apart-ok : (k : ℕ) (gs : List Asked) → length (filterb selected_group gs) ≤ 1 → apart both_selecting (map group_of (lend_groups k gs)) ≡ true
apart-ok k [] h = refl
apart-ok k (g ∷ gs) h = go (selected_group g) refl h (apart-ok (k + length (names_of g.filter)) gs)
  where
    x : Group
    x = group_of (lend_group k g)

    rest : List Group
    rest = map group_of (lend_groups (k + length (names_of g.filter)) gs)

    go : (b : Bool) → selected_group g ≡ b → length (keep b g (filterb selected_group gs)) ≤ 1 → (length (filterb selected_group gs) ≤ 1 → apart both_selecting rest ≡ true) → (not (anyb (λ (y : Group). both_selecting x y) rest) && apart both_selecting rest) ≡ true
    go true e l ih = rw (no_other x (k + length (names_of g.filter)) gs (omega arith)) (ih (omega arith))
    go false e l ih = rw (unlike x rest (chosen k g ∙ e)) (ih l)

-- ---- the names
name-ok : (a : List ℕ) → lent_name_ok (lend_name a) ≡ true
name-ok a = go (valid a) refl
  where
    go : (b : Bool) → valid a ≡ b → lent_name_ok (lend_name a) ≡ true
    go true e = rw (e, valid_short (fold a) (fold-valid a e), name-stored (fold a), fold-valid a e, fold-fold a, or_true (eqb (length (fold a)) 0)) (rest-stored (fold a))
    go false e = rw e

names-ok : (l : List (List ℕ)) → allb lent_name_ok (map lend_name l) ≡ true
names-ok [] = refl
names-ok (a ∷ l) = rw (name-ok a) (names-ok l)

-- they are as many as the groups say, and as the command gave
length_names : (k : ℕ) (gs : List Asked) → length (map lend_name (all_names gs)) ≡ lent_name_count (lend_groups k gs)
length_names k gs = length-map (all_names gs) lend_name ∙ go k gs
  where
    go : (k : ℕ) (gs : List Asked) → length (all_names gs) ≡ lent_name_count (lend_groups k gs)
    go k [] = refl
    go k (g ∷ gs) = length-append (names_of g.filter) (all_names gs) ∙ ap (λ n. length (names_of g.filter) + n) (go (k + length (names_of g.filter)) gs)

count-asked : (k : ℕ) (gs : List Asked) → lent_name_count (lend_groups k gs) ≡ asked (map (λ (g : Asked). g.filter) gs)
count-asked k [] = refl
count-asked k (g ∷ gs) = ap (λ n. length (names_of g.filter) + n) (count-asked (k + length (names_of g.filter)) gs)

-- ---- the session that these groups make
module _ (s : Session) (gs : List Asked) where
  abbrev blanks : List LentGroup
  blanks = replicate (8 - length (lend_groups 0 gs)) no_group

  abbrev blank_names : List LentName
  blank_names = replicate (16 - length (map lend_name (all_names gs))) no_name

  session-ok : length gs ≤ 8 → asked (map (λ (g : Asked). g.filter) gs) ≤ 16 → selected_twice gs ≡ false → anyb misplaced_event gs ≡ false → anyb misplaced_attributes gs ≡ false → anyb unpaired gs ≡ false
      → session_ok (watching s gs) ≡ true
  session-ok few short st me ma up = rw (
    le-leb (length gs) 8 few,
    or_true (eqb (length gs) 0),
    take_at (lend_groups 0 gs) blanks (length gs) (length_groups 0 gs),
    groups-ok 0 gs me ma up,
    apart-ok 0 gs (ltb-false 1 (length (filterb selected_group gs)) st),
    le-leb (lent_name_count (lend_groups 0 gs)) 16 (rw (count-asked 0 gs) short),
    take_at (map lend_name (all_names gs)) blank_names (lent_name_count (lend_groups 0 gs)) (length_names 0 gs),
    names-ok (all_names gs),
    drop_at (lend_groups 0 gs) blanks (length gs) (length_groups 0 gs),
    all_replicate blank_group (8 - length (lend_groups 0 gs)) no_group refl,
    drop_at (map lend_name (all_names gs)) blank_names (lent_name_count (lend_groups 0 gs)) (length_names 0 gs),
    all_replicate blank_name (16 - length (map lend_name (all_names gs))) no_name refl,
  )

-- ---- the reply: an accepted command passed each rung
rung : (b : Bool) (r q : Reply) → reply_number r < 6 → cond b r q ≡ Accepted → (b ≡ false) × (q ≡ Accepted)
rung true r q l e = let z : reply_number r ≡ 6 = ap reply_number e in absurd (let n : ⊥ = omega arith in n)
rung false r q l e = (refl, e)

pub passed : (l : Limits) (sel : Bool) (p : ℕ) (c : Command) → reply_of l sel (ok p c) ≡ Accepted
    → (refused sel c ≡ false) × (bad_event c ≡ false) × (not_supported c ≡ false) × (bad_charset c ≡ false) × (command_too_large l c ≡ false)
passed l sel p c e =
    let r1 = rung (refused sel c) Bad _ (omega arith) e in
    let r2 = rung (bad_event c) BadEvent _ (omega arith) r1.1 in
    let r3 = rung (not_supported c) Unsupported _ (omega arith) r2.1 in
    let r4 = rung (bad_charset c) BadCharset _ (omega arith) r3.1 in
    let r5 = rung (command_too_large l c) TooLarge Accepted (omega arith) r4.1 in
    (r1.0, r2.0, r3.0, r4.0, r5.0)

-- ---- NOTIFY SET, and NOTIFY NONE
pub watching-ok : (s : Session) (w sel : Bool) (p : ℕ) (gs : List Asked) → reply_of limits sel (ok p (notify_set w gs)) ≡ Accepted → session_ok (watching s gs) ≡ true
watching-ok s w sel p gs e = session-ok s gs few short
    (or_l (selected_twice gs) (anyb misplaced_event gs) front)
    (or_r (selected_twice gs) (anyb misplaced_event gs) front)
    (or_r (selected_twice gs || anyb misplaced_event gs) (anyb misplaced_attributes gs) all_but)
    (or_r ((selected_twice gs || anyb misplaced_event gs) || anyb misplaced_attributes gs) (anyb unpaired gs) facts.0)
  where
    filters : List Filter
    filters = map (λ (g : Asked). g.filter) gs

    facts : (refused sel (notify_set w gs) ≡ false) × (bad_event (notify_set w gs) ≡ false) × (not_supported (notify_set w gs) ≡ false) × (bad_charset (notify_set w gs) ≡ false) × (command_too_large limits (notify_set w gs) ≡ false)
    facts = passed limits sel p (notify_set w gs) e

    all_but : ((selected_twice gs || anyb misplaced_event gs) || anyb misplaced_attributes gs) ≡ false
    all_but = or_l _ (anyb unpaired gs) facts.0

    front : (selected_twice gs || anyb misplaced_event gs) ≡ false
    front = or_l _ (anyb misplaced_attributes gs) all_but

    few : length gs ≤ 8
    few = rw (length-map gs (λ (g : Asked). g.filter)) at (ltb-false 8 (length filters) (or_l (ltb 8 (length filters)) _ facts.4))

    short : asked filters ≤ 16
    short = ltb-false 16 (asked filters) (or_r (ltb 8 (length filters)) _ facts.4)
