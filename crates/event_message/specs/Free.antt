-- Whoever is told finds the last 64 octets free: the premises of the three laws. Assumes nothing.
use Rattle.std.specs.Prelude.{◌≡◌, refl, Bool, true, false, not, ◌&&◌, ◌||◌, map, ℕ, ◌+◌, ◌-◌, ◌≤◌, eqb, leb, length, take}
use Rattle.std.proofs.Common.{ap, eqb-true, leb-true}
use Rattle.model.specs.Laws.{and_r, tf}
use Rattle.model.specs.Lists.{anyb}
use Rattle.model.specs.Memory.{Memory, filled, selected_box, both_rights, is_selected}
use Rattle.model.specs.Groups.{group_of, groups_of, asked_of}
use Rattle.model.specs.View.{new_at_once, expunge_at_once, flags_at_once}
use Rattle.model.specs.Events.{in_view}
use Rattle.model.specs.Lawful.{filled_ok}
use Rattle.model.specs.declared.Group.{Group}
use Rattle.model.specs.declared.Mailbox.{Mailbox}
use Rattle.model.specs.View.{view, place_of}
use Rattle.model.specs.Memory.{mails}
use Rattle.laws.specs.Counting.{countb, place-count}
use Rattle.table_messages.specs.Counted.{before}
use Rattle.event_message.specs.Accepted.{away_told}

module _ (m : Memory) (fill : filled_ok (length m.queue) (filled m) m.session ≡ true) where
  -- a group asks
  group_free : (p : Group → Bool) → anyb p (groups_of m.session) ≡ true → filled m ≤ length m.queue - 64
  group_free p h = go (eqb m.session.groupcount 0) refl (and_r (leb (filled m) (length m.queue)) (eqb m.session.groupcount 0 || leb (filled m) (length m.queue - 64)) fill)
    where
      go : (b : Bool) → eqb m.session.groupcount 0 ≡ b → (b || leb (filled m) (length m.queue - 64)) ≡ true → filled m ≤ length m.queue - 64
      go true e x =
          let z = eqb-true m.session.groupcount 0 e in
          let none : anyb p (groups_of m.session) ≡ false = ap (λ (n : ℕ). anyb p (map group_of (take n m.session.groups))) z in
          leb-true _ _ (tf (anyb p (groups_of m.session)) h none)
      go false e x = leb-true _ _ x

  pub soon_free : (i u : ℕ) → (in_view m i u && expunge_at_once m) ≡ true → filled m ≤ length m.queue - 64
  soon_free i u h = group_free _ (and_r (both_rights (selected_box m)) _ (and_r (in_view m i u) (expunge_at_once m) h))

  pub flags_free : (i u : ℕ) → (in_view m i u && flags_at_once m) ≡ true → filled m ≤ length m.queue - 64
  flags_free i u h = group_free _ (and_r (both_rights (selected_box m)) _ (and_r (in_view m i u) (flags_at_once m) h))

  pub news_free : (i : ℕ) → (is_selected m i && new_at_once m) ≡ true → filled m ≤ length m.queue - 64
  news_free i h = group_free _ (and_r (both_rights (selected_box m)) _ (and_r (is_selected m i) (new_at_once m) h))

  pub away_free : (i : ℕ) (x : Mailbox) (asks : Group → Bool) → away_told m i x asks ≡ true → filled m ≤ length m.queue - 64
  away_free i x asks h = group_free _ (and_r (both_rights x) _ (and_r (not (is_selected m i)) (both_rights x && asked_of m.session x asks) h))

pub place_is : (m : Memory) (u : ℕ) → (place_of u (view m)).0 ≡ 1 + countb (before m.session.selected m.session.told u) (mails m)
place_is m u = place-count m u
