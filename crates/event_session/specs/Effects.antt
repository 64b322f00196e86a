-- What lines end, many of them together. Assumes nothing.
use Rattle.std.specs.Prelude.{◌≡◌, Bool, cond, ◌||◌, eqb, leb, length, take, drop}
use Rattle.std.proofs.Math.Path.{refl, ap}
use Rattle.std.proofs.Common.{ap₂, sym, ◌∙◌, arith, length-append, length-take, take-append-drop, take_all, leb-true, leb-false}
use Rattle.std.proofs.Math.Bool.{true, false, not}
use mathlib.Core.List.{List, [], ◌∷◌, ◌++◌, map}
use Prim.Native.Nat.{ℕ, zero, suc, ◌+◌, ◌-◌, ◌≤◌, min}
use Rattle.std.proofs.Math.ListN.{length-map}
use Rattle.model.specs.Lists.{filterb, keep, anyb}
use Rattle.model.specs.Laws.{filter-length, cond_same, filter_twice}
use Rattle.model.specs.Memory.{Memory, boxes, mails, the_mailbox, no_message, uid_of, is_message, expunged, marked, with_states, with_mails, with_session, with_view, drop_mails, change_mails}
use Rattle.model.specs.Lines.{Line, expunge}
use Rattle.model.specs.Queue.{fitting, effects, unmark}
use Rattle.model.specs.View.{expunge_lines, marked_lines, exists_line, flags_line}
use Rattle.demands.specs.Lasting.Owing.{fitting-take}
use Rattle.demands.specs.Isolation.Alike.{mails_with}
use Rattle.model.specs.declared.Message.{Message}
use Rattle.model.specs.declared.Session.{Session}
use Rattle.laws.specs.Changing.{refill_same}
use Rattle.laws.specs.Fitting.{size, fitting-append}
use Rattle.event_session.specs.After.{with_shorter}
use Rattle.event_session.specs.Sunk.{top_of, fitting_all}
use Rattle.event_session.specs.Runs.{uids, zeros}

-- ---- a list of lines is cut anywhere
pub fit_short : (free : ℕ) (ls : List Line) → length (fitting free ls) ≤ length ls
fit_short free ls = let a = ap length (fitting-take free ls) in let b = length-take (length (fitting free ls)) ls in omega arith

pub fit-min : (free : ℕ) (a b : List Line) → length (fitting free a) ≡ min (length (fitting free (a ++ b))) (length a)
fit-min free a b = go (leb (size a) free) refl
  where
    go : (c : Bool) → leb (size a) free ≡ c → length (fitting free a) ≡ min (length (fitting free (a ++ b))) (length a)
    go true e =
        let x = ap length (fitting_all free a e) in
        let y : fitting free (a ++ b) ≡ a ++ fitting (free - size a) b = fitting-append free a b ∙ rw e in
        let z = ap length y in
        let w = length-append a (fitting (free - size a) b) in
        omega arith
    go false e =
        let y : fitting free (a ++ b) ≡ fitting free a = fitting-append free a b ∙ rw e in
        let z = ap length y in
        let w = fit_short free a in
        omega arith

module _ {A : Type 0} where
  pub take_split : (n : ℕ) (a b : List A) → take n (a ++ b) ≡ take n a ++ take (n - length a) b
  take_split zero [] b = refl
  take_split (suc n) [] b = let e : suc n - 0 ≡ suc n = omega arith in rw e
  take_split zero (x ∷ a) b = let e : 0 - length (x ∷ a) ≡ 0 = omega arith in rw e
  take_split (suc n) (x ∷ a) b = let e : suc n - length (x ∷ a) ≡ n - length a = omega arith in rw e (ap (λ (l : List A). x ∷ l) (take_split n a b))

  pub take_min : (n k : ℕ) (l : List A) → length l ≤ k → take (min n k) l ≡ take n l
  take_min n k l h = go (leb n k) refl
    where
      go : (c : Bool) → leb n k ≡ c → take (min n k) l ≡ take n l
      go true e = let z = leb-true n k e in let m : min n k ≡ n = omega arith in rw m
      go false e = let z = leb-false n k e in let m : min n k ≡ k = omega arith in rw m (take_all k l h ∙ sym (take_all n l (omega arith)))

-- ---- what lines end, together
unfoldable pub drop_each : ℕ → List ℕ → List Message → List Message
drop_each i [] l = l
drop_each i (u ∷ us) l = drop_each i us (filterb (λ (e : Message). not (is_message i u e)) l)

unfoldable pub clear_all : ℕ → List ℕ → List Message → List Message
clear_all i [] l = l
clear_all i (u ∷ us) l = clear_all i us (map (unmark i u) l)

filter_all : (l : List Message) → filterb (λ (e : Message). true) l ≡ l
filter_all [] = refl
filter_all (x ∷ l) = ap (λ (t : List Message). x ∷ t) (filter_all l)

pub drop_all : (i : ℕ) (us : List ℕ) (l : List Message) → drop_each i us l ≡ filterb (λ (e : Message). not (anyb (λ (u : ℕ). is_message i u e) us)) l
unfolding drop_each
drop_all i [] l = sym (filter_all l)
drop_all i (u ∷ us) l = drop_all i us (filterb (λ (e : Message). not (is_message i u e)) l) ∙ filter_twice (is_message i u) (λ (e : Message). anyb (λ (v : ℕ). is_message i v e) us) l

abbrev pub calm : ℕ → List ℕ → Message → Message
calm i us e = cond (anyb (λ (u : ℕ). is_message i u e) us) (with_states e 0) e

map_same : (l : List Message) → map (λ (e : Message). e) l ≡ l
map_same [] = refl
map_same (x ∷ l) = ap (λ (t : List Message). x ∷ t) (map_same l)

map-map : (a b c : Message → Message) → ((e : Message) → b (a e) ≡ c e) → (l : List Message) → map b (map a l) ≡ map c l
map-map a b c h [] = refl
map-map a b c h (x ∷ l) = ap₂ ◌∷◌ (h x) (map-map a b c h l)

pub clear_all_lem : (i : ℕ) (us : List ℕ) (l : List Message) → clear_all i us l ≡ map (calm i us) l
unfolding clear_all
clear_all_lem i [] l = sym (map_same l)
clear_all_lem i (u ∷ us) l = clear_all_lem i us (map (unmark i u) l) ∙ map-map (unmark i u) (calm i us) (calm i (u ∷ us)) twice l
  where
    twice : (e : Message) → calm i us (unmark i u e) ≡ calm i (u ∷ us) e
    twice e = go (is_message i u e)
      where
        go : (b : Bool) → calm i us (cond b (with_states e 0) e) ≡ cond (b || anyb (λ (v : ℕ). is_message i v e) us) (with_states e 0) e
        go true = cond_same (anyb (λ (v : ℕ). is_message i v e) us) (with_states e 0)
        go false = refl

pub drop-length : (i : ℕ) (us : List ℕ) (l : List Message) → length (drop_each i us l) ≤ length l
drop-length i us l = rw (drop_all i us l) (filter-length (λ (e : Message). not (anyb (λ (u : ℕ). is_message i u e) us)) l)

module _ (m : Memory) where
  abbrev pub over : List Message → Session → Memory
  over l s = with_session (with_mails m l) s

  over_with : (l k : List Message) (s : Session) → length l ≤ length (mails m) → length k ≤ length l → with_mails (over l s) k ≡ over k s
  over_with l k s h w = ap (λ (x : Memory). with_session x s) (with_shorter m l k h w)

  pub over_self : length (mails m) ≡ m.counts.messages → over (mails m) m.session ≡ m
  over_self n =
      ap₂ (λ (t : List Message) (c : ℕ). record { rows = m.rows; entries = t; counts = record { mailboxes = m.counts.mailboxes; messages = c; filled = m.counts.filled }; session = m.session; queue = m.queue })
      (refill_same no_message m.entries (length (mails m)) (mails m) refl ∙ (ap (λ (k : ℕ). mails m ++ drop k m.entries) n ∙ take-append-drop m.counts.messages m.entries))
      n

  drop_one : (l : List Message) (s : Session) (u : ℕ) → length l ≤ length (mails m) → drop_mails (over l s) (is_message s.selected u) ≡ over (filterb (λ (e : Message). not (is_message s.selected u e)) l) s
  drop_one l s u h = ap (λ (t : List Message). with_mails (over l s) (filterb (λ (e : Message). not (is_message s.selected u e)) t)) (mails_with m l) ∙ over_with l (filterb (λ (e : Message). not (is_message s.selected u e)) l) s h (filter-length (λ (e : Message). not (is_message s.selected u e)) l)

  clear_one : (l : List Message) (s : Session) (u : ℕ) → length l ≤ length (mails m) → change_mails (over l s) (unmark s.selected u) ≡ over (map (unmark s.selected u) l) s
  clear_one l s u h = ap (λ (t : List Message). with_mails (over l s) (map (unmark s.selected u) t)) (mails_with m l) ∙ over_with l (map (unmark s.selected u) l) s h (let n = length-map l (unmark s.selected u) in omega arith)

  pub eff_E : (n place : ℕ) (v l : List Message) (s : Session) → length l ≤ length (mails m) → effects (over l s) (take n (expunge_lines place v)) ≡ over (drop_each s.selected (take n (uids (filterb expunged v))) l) s
  unfolding effects expunge_lines drop_each
  eff_E zero place v l s h = refl
  eff_E (suc n) place [] l s h = refl
  eff_E (suc n) place (e ∷ v) l s h = go (expunged e) (eff_E n place v (filterb (λ (x : Message). not (is_message s.selected (uid_of e) x)) l) s (let k = filter-length (λ (x : Message). not (is_message s.selected (uid_of e) x)) l in omega arith)) (eff_E (suc n) (place + 1) v l s h)
    where
      go : (b : Bool) → effects (over (filterb (λ (x : Message). not (is_message s.selected (uid_of e) x)) l) s) (take n (expunge_lines place v)) ≡ over (drop_each s.selected (take n (uids (filterb expunged v))) (filterb (λ (x : Message). not (is_message s.selected (uid_of e) x)) l)) s
          → effects (over l s) (take (suc n) (expunge_lines (place + 1) v)) ≡ over (drop_each s.selected (take (suc n) (uids (filterb expunged v))) l) s
          → effects (over l s) (take (suc n) (cond b (expunge (record { 0 = place }) e.uid ∷ expunge_lines place v) (expunge_lines (place + 1) v))) ≡ over (drop_each s.selected (take (suc n) (uids (keep b e (filterb expunged v)))) l) s
      go true i j = ap (λ (k : Memory). effects k (take n (expunge_lines place v))) (drop_one l s (uid_of e) h) ∙ i
      go false i j = j

  pub eff_M : (n place : ℕ) (v l : List Message) (s : Session) → length l ≤ length (mails m) → effects (over l s) (take n (marked_lines place v)) ≡ over (clear_all s.selected (take n (uids (filterb marked v))) l) s
  unfolding effects marked_lines clear_all
  eff_M zero place v l s h = refl
  eff_M (suc n) place [] l s h = refl
  eff_M (suc n) place (e ∷ v) l s h = go (marked e) (eff_M n (place + 1) v (map (unmark s.selected (uid_of e)) l) s (let k = length-map l (unmark s.selected (uid_of e)) in omega arith)) (eff_M (suc n) (place + 1) v l s h)
    where
      go : (b : Bool) → effects (over (map (unmark s.selected (uid_of e)) l) s) (take n (marked_lines (place + 1) v)) ≡ over (clear_all s.selected (take n (uids (filterb marked v))) (map (unmark s.selected (uid_of e)) l)) s
          → effects (over l s) (take (suc n) (marked_lines (place + 1) v)) ≡ over (clear_all s.selected (take (suc n) (uids (filterb marked v))) l) s
          → effects (over l s) (take (suc n) (cond b (flags_line place e ∷ marked_lines (place + 1) v) (marked_lines (place + 1) v))) ≡ over (clear_all s.selected (take (suc n) (uids (keep b e (filterb marked v)))) l) s
      go true i j = ap (λ (k : Memory). effects k (take n (marked_lines (place + 1) v))) (clear_one l s (uid_of e) h) ∙ i
      go false i j = j

  pub eff_X : (n k : ℕ) (f l : List Message) (s : Session) → effects (over l s) (take n (exists_line k f)) ≡ over l (cond (eqb (top_of 0 (take n (zeros f))) 1) (with_view s s.selected (the_mailbox s.selected (boxes m)).uidnext) s)
  unfolding effects top_of
  eff_X zero k f l s = refl
  eff_X (suc n) k [] l s = refl
  eff_X (suc zero) k (e ∷ f) l s = refl
  eff_X (suc (suc n)) k (e ∷ f) l s = refl
