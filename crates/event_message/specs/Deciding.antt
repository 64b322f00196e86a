-- What code finds by itself before it serves a record about a message: is it in the view, at which place, is it told at once, who is told. Assumes nothing.
use Rattle.std.specs.Prelude.{◌≡◌, Bool, true, false, cond, ◌&&◌, List, map, ℕ, ◌+◌, ◌<◌, ltb, take, get_or}
use Rattle.std.proofs.Math.Path.{refl, ap, sym}
use Rattle.std.proofs.Common.{ap₂, ◌∙◌, eqb-true}
use Rattle.std.proofs.Math.Bool.{not}
use Rattle.std.proofs.Math.Dec.{eqb}
use Rattle.model.specs.Laws.{and_l, and_r, tf}
use Rattle.model.specs.Lists.{anyb}
use Rattle.model.specs.Memory.{Memory, boxes, mails, filled, no_message, uid_of, known, the_mailbox, selected_box, both_rights, is_selected, is_message}
use Rattle.model.specs.Groups.{group_of, groups_of, asked_of, asks_expunge, asks_flags, selected_asks, immediate_asks}
use Rattle.model.specs.View.{view, place_of, expunge_at_once, flags_at_once, flags_wait}
use Rattle.model.specs.Events.{in_view, removed, reflagged}
use Rattle.model.specs.Rules.{event_outcome}
use Rattle.demands.specs.Lasting.Law.{Law}
use Rattle.demands.specs.Isolation.Erase.{box_id}
use Rattle.model.specs.declared.Group.{Group}
use Rattle.model.specs.declared.Mailbox.{Mailbox}
use Rattle.model.specs.declared.Message.{Message}
use Rattle.model.specs.declared.Session.{Session}
use Rattle.laws.specs.Counting.{countb}
use Rattle.table_mailboxes.specs.Rows.{rows_are}
use Rattle.table_messages.specs.Counted.{before}
use Rattle.match_groups.specs.Asking.{asks_bit}
use Rattle.event_message.specs.After.{After, wait_after, once_after, remove_after}
use Rattle.event_message.specs.Flagged.{flag_after}
use Rattle.event_message.specs.Accepted.{left, away_told, remove_told}
use Rattle.event_message.specs.Flagging.{change_told}
use Rattle.event_message.specs.Free.{soon_free, away_free, flags_free, place_is}

-- the row is the selected mailbox's
abbrev pub is_chosen : Session → Mailbox → Bool
is_chosen s x = not (eqb x.id 0) && eqb x.id s.selected

-- the client has message u of the mailbox
abbrev pub has_seen : Session → Mailbox → ℕ → Bool
has_seen s x u = is_chosen s x && ltb u s.told

-- its place in the view
abbrev pub place_in : Session → ℕ → List Message → ℕ
place_in s u l = 1 + countb (before s.selected s.told u) l

module _ (es : List Message) (used : ℕ) (q : List ℕ) (s : Session) (at k : ℕ) (x : Mailbox) where
  abbrev uid : ℕ
  uid = uid_of (get_or es k no_message)

  -- `XP` of entry k
  unfoldable pub expunge_after : After
  expunge_after = remove_after es used q s at k x (place_in s uid (take used es)) (has_seen s x uid) (both_rights x && immediate_asks s (asks_bit 1)) (not (is_chosen s x) && (both_rights x && asked_of s x (asks_bit 1)))

  -- `FL` of entry k
  unfoldable pub reflag_after : (f c : ℕ) → After
  reflag_after f c =
      flag_after es used q s at x k f c (place_in s uid (take used es))
      (has_seen s x uid && (both_rights x && selected_asks s (asks_bit 2)))
      (has_seen s x uid && (both_rights x && eqb s.notified 0))
      (not (is_chosen s x) && (both_rights x && asked_of s x (asks_bit 2)))

-- ---- whoever is told has a group
pub asks_some : (s : Session) (p : Group → Bool) → anyb p (groups_of s) ≡ true → s.groupcount ≡ 0 → ⊥
asks_some s p h z = tf (anyb p (groups_of s)) h (ap (λ (n : ℕ). anyb p (map group_of (take n s.groups))) z)

-- what is left, from what was found
each : (f : ℕ → Bool → Bool → Bool → After) {n n' : ℕ} {a a' b b' c c' : Bool} → n ≡ n' → a ≡ a' → b ≡ b' → c ≡ c' → f n a b c ≡ f n' a' b' c'
each f {n} {n'} {a} {a'} {b} {b'} {c} {c'} p q r t = ap₂ (λ (i : ℕ) (j : Bool). f i j b c) p q ∙ ap₂ (λ (i j : Bool). f n' a' i j) r t

-- ---- in the rules' words
pub and_same : (v a b : Bool) → (v ≡ true → a ≡ b) → (v && a) ≡ (v && b)
and_same true a b e = e refl
and_same false a b e = refl

same_once : (es : List Message) (used : ℕ) (q : List ℕ) (s : Session) (at k : ℕ) (x : Mailbox) (n : ℕ) (on v a b : Bool) → (v ≡ true → a ≡ b) → remove_after es used q s at k x n v a on ≡ remove_after es used q s at k x n v b on
unfolding remove_after
same_once es used q s at k x n on true a b e = ap (λ (c : Bool). cond c (once_after es used q s at k n) (wait_after es used q s at k)) (e refl)
same_once es used q s at k x n on false a b e = refl

module _ (b : Memory) (law : Law b) (rs : List Mailbox) (many i u k : ℕ) (h : k < b.counts.messages) (is : is_message i u (get_or b.entries k no_message) ≡ true) (there : known i (boxes (rows_are b rs many)) ≡ true) where
  abbrev m : Memory
  m = rows_are b rs many

  abbrev x : Mailbox
  x = the_mailbox i (boxes m)

  the-uid : uid_of (get_or m.entries k no_message) ≡ u
  the-uid = eqb-true (uid_of (get_or m.entries k no_message)) u (and_r (eqb (get_or m.entries k no_message).mailbox i) (eqb (uid_of (get_or m.entries k no_message)) u) is)

  the_id : x.id ≡ i
  the_id = box_id i (boxes m) there

  chosen : is_chosen m.session x ≡ is_selected m i
  chosen = ap (λ (n : ℕ). not (eqb n 0) && eqb n m.session.selected) the_id

  seen : has_seen m.session x (uid_of (get_or m.entries k no_message)) ≡ in_view m i u
  seen = ap₂ ◌&&◌ chosen (ap (λ (n : ℕ). ltb n m.session.told) the-uid)

  placed : place_in m.session (uid_of (get_or m.entries k no_message)) (mails m) ≡ (place_of u (view m)).0
  placed = ap (λ (n : ℕ). place_in m.session n (mails m)) the-uid ∙ sym (place_is m u)

  -- the selected mailbox's rights are this one's
  rights : in_view m i u ≡ true → both_rights (selected_box m) ≡ both_rights x
  rights v = ap (λ (n : ℕ). both_rights (the_mailbox n (boxes m))) (sym (eqb-true i m.session.selected (and_r (not (eqb i 0)) _ (and_l (is_selected m i) _ v))))

  pub expunge_told : (event_outcome m (λ (j : Memory). removed j i u)).after ≡ left m m.rows (expunge_after m.entries m.counts.messages m.queue m.session (filled m) k x)
  unfolding expunge_after
  expunge_told =
      remove_told b law rs many i u k h is (soon_free m law.fill i u) (away_free m law.fill i x asks_expunge)
      ∙ ap (left m m.rows)
      (same_once m.entries m.counts.messages m.queue m.session (filled m) k x (place_of u (view m)).0 (away_told m i x asks_expunge) (in_view m i u) (expunge_at_once m) (both_rights x && immediate_asks m.session (asks_bit 1)) (λ v. ap (λ (b : Bool). b && immediate_asks m.session (asks_bit 1)) (rights v))
      ∙ sym (each (remove_after m.entries m.counts.messages m.queue m.session (filled m) k x) placed seen refl (ap (λ (c : Bool). not c && (both_rights x && asked_of m.session x (asks_bit 1))) chosen)))

  pub reflag_told : (f c : ℕ) → (event_outcome m (λ (j : Memory). reflagged j i u f c)).after ≡ left m m.rows (reflag_after m.entries m.counts.messages m.queue m.session (filled m) k x f c)
  unfolding reflag_after
  reflag_told f c =
      change_told b law rs many i u f c k h is (flags_free m law.fill i u) (away_free m law.fill i x asks_flags)
      ∙ ap (left m m.rows)
      (ap₂ (λ (a b : Bool). flag_after m.entries m.counts.messages m.queue m.session (filled m) x k f c (place_of u (view m)).0 a b (away_told m i x asks_flags))
      (and_same (in_view m i u) (flags_at_once m) (both_rights x && selected_asks m.session (asks_bit 2)) (λ v. ap (λ (b : Bool). b && selected_asks m.session (asks_bit 2)) (rights v)))
      (and_same (in_view m i u) (flags_wait m) (both_rights x && eqb m.session.notified 0) (λ v. ap (λ (b : Bool). b && eqb m.session.notified 0) (rights v)))
      ∙ sym (each (flag_after m.entries m.counts.messages m.queue m.session (filled m) x k f c) placed
      (ap (λ (v : Bool). v && (both_rights x && selected_asks m.session (asks_bit 2))) seen)
      (ap (λ (v : Bool). v && (both_rights x && eqb m.session.notified 0)) seen)
      (ap (λ (b : Bool). not b && (both_rights x && asked_of m.session x (asks_bit 2))) chosen)))
