-- A record about an id that stays does the same to alike memories: each event. Assumes nothing.
use Rattle.std.specs.Prelude.{◌≡◌, List, [], ◌∷◌, ◌++◌, Bool, true, false, not, cond, ◌&&◌, ℕ, ◌+◌, ◌<◌, eqb, ltb, length, get_or}
use Rattle.std.proofs.Math.Path.{refl, ap}
use Rattle.std.proofs.Common.{◌∙◌}
use Rattle.model.specs.Lists.{filterb, same}
use Rattle.model.specs.Laws.{tf, and_l}
use Rattle.model.specs.Names.{Name, parent_of}
use Rattle.model.specs.Memory.{Memory, boxes, mails, with_attributes, with_next, with_name, counter_of, with_counter, may_list, name_of, the_mailbox, is_selected, in_mailbox, is_message, expunged, with_flags, with_states, silenced, put_box, drop_box, drop_mails, change_mails}
use Rattle.model.specs.Groups.{asked_of, asks_new, asks_expunge, asks_flags}
use Rattle.model.specs.Lines.{mail_items, expunge, overflow}
use Rattle.model.specs.Queue.{fits}
use Rattle.model.specs.View.{place_of, expunge_at_once, flags_at_once, flags_wait, flags_line}
use Rattle.model.specs.Events.{Event, loud, create_lines, delete_lines, stand_in, is_listed, parent_row, parent_lines, rename_lines, subscription_lines, rights_lines, new_box, created, deleted, renamed_to, with_subscribed, subscribed_to, with_rights, granted, status_lines, counts_of, changes_of, message, with_arrived, arrived, in_view, expire, removed, reflag, mark, reflagged, silence, tellings, settled}
use Rattle.model.specs.Rules.{Outcome, event_outcome, raised}
use Rattle.model.specs.declared.Mailbox.{Mailbox}
use Rattle.model.specs.declared.Message.{Message}
use Rattle.model.specs.declared.Group.{Group}
use Rattle.demands.specs.Isolation.Erase.{box_stays}
use Rattle.demands.specs.Isolation.Alike.{Alike, same_box, same_messages, alike-session, alike_put, alike-add, alike-drop, alike-add_mail, alike-drop-mails, alike-change}
use Rattle.demands.specs.Isolation.Asked.{Dark, same-found-boxes, listed}
use Rattle.demands.specs.Isolation.Spoken.{same_id, same_view, same-announcing, same-fits, same_new, same-expunge, same_flags, same_wait, alike-say}

-- two events alike
pub record AlikeEvent (H : ℕ → Bool) (x y : Event) : Type 0 where
  pub stored : Alike H x.stored y.stored
  pub lines : y.lines ≡ x.lines

-- one of two events, by tests that agree
pick : (H : ℕ → Bool) (b c : Bool) → c ≡ b → (x x' y y' : Event) → AlikeEvent H x x' → AlikeEvent H y y' → AlikeEvent H (cond b x y) (cond c x' y')
pick H true true e x x' y y' l r = l
pick H true false e x x' y y' l r = tf false e refl
pick H false true e x x' y y' l r = tf true refl e
pick H false false e x x' y y' l r = r

-- a change of one message keeps its mailbox
pub kept_mailbox : (b : Bool) (d e : Message) → d.mailbox ≡ e.mailbox → (cond b d e).mailbox ≡ e.mailbox
kept_mailbox true d e h = h
kept_mailbox false d e h = refl

-- two outcomes alike
pub record AlikeOutcome (H : ℕ → Bool) (x y : Outcome) : Type 0 where
  pub answer : y.answer ≡ x.answer
  pub after : Alike H x.after y.after

module _ (H : ℕ → Bool) (h0 : H 0 ≡ false) where
  pub alike-silence : (s t : Memory) → Alike H s t → Alike H (silence s) (silence t)
  alike-silence s t a = alike-session H s t a (silenced s.session) (silenced t.session) (ap silenced a.session) a.awake

  -- an event is told alike, if it is alike now and after NOTIFY NONE
  pub told_left : (s t : Memory) → Alike H s t → (event : Memory → Event) → AlikeEvent H (event s) (event t) → AlikeEvent H (event (silence s)) (event (silence t))
      → AlikeOutcome H (event_outcome s event) (event_outcome t event)
  unfolding tellings settled
  told_left s t a event now hushed = go (fits s (event s).lines) refl
    where
      same : fits t (event t).lines ≡ fits s (event s).lines
      same = ap (fits t) now.lines ∙ same-fits H s t a (event s).lines

      go : (b : Bool) → fits s (event s).lines ≡ b → AlikeOutcome H (event_outcome s event) (event_outcome t event)
      go true e = record {
        answer = refl;
        after = rw (same, e, now.lines) (alike-say H (event s).stored (event t).stored now.stored (event s).lines);
      }
      go false e = record {
        answer = refl;
        after = rw (same, e) (alike-say H (event (silence s)).stored (event (silence t)).stored hushed.stored (overflow ∷ []));
      }

  module _ (s t : Memory) (a : Alike H s t) (i : ℕ) (hi : H i ≡ false) where
    own : the_mailbox i (boxes t) ≡ the_mailbox i (boxes s)
    own = same_box H s t a i hi

    stays : H (the_mailbox i (boxes s)).id ≡ false
    stays = box_stays H h0 i hi (boxes s)

    -- the rows by which a parent is found
    same-listed : Dark H s → (p : Name) → filterb (is_listed p) (boxes t) ≡ filterb (is_listed p) (boxes s)
    same-listed d p = same-found-boxes H s t a d (is_listed p) (λ x e. listed H s t a d x (and_l (may_list x) (same (name_of x) p) e))

    -- the parent of a mailbox, and of this one
    same-parent : Dark H s → (x : Mailbox) → parent_row (boxes t) x ≡ parent_row (boxes s) x
    same-parent d x = ap (λ (l : List Mailbox). get_or l 0 (stand_in (parent_of (name_of x)))) (same-listed d (parent_of (name_of x)))

    own-parent : Dark H s → parent_row (boxes t) (the_mailbox i (boxes t)) ≡ parent_row (boxes s) (the_mailbox i (boxes s))
    own-parent d = ap (parent_row (boxes t)) own ∙ same-parent d (the_mailbox i (boxes s))

    pub created_left : (at q v c : ℕ) (n : Name) → Dark H s → length (boxes s) < length s.rows → AlikeEvent H (created s i at q v c n) (created t i at q v c n)
    created_left at q v c n d room = record {
      stored = alike-add H s t a (new_box i at v c n) hi room;
      lines = λ j. loud q (create_lines (a.session j) (new_box i at v c n) ++ parent_lines (a.session j) (same-parent d (new_box i at v c n) j) (new_box i at v c n));
    }

    pub deleted_left : (q : ℕ) → Dark H s → AlikeEvent H (deleted s i q) (deleted t i q)
    deleted_left q d = record {
      stored = alike-drop-mails H (drop_box s i) (drop_box t i) (alike-drop H s t a i) (in_mailbox i);
      lines = λ j. loud q (delete_lines (a.session j) (own j) ++ parent_lines (a.session j) (own-parent d j) (own j));
    }

    pub renamed_left : (q : ℕ) (n : Name) → AlikeEvent H (renamed_to s i q n) (renamed_to t i q n)
    renamed_left q n = record {
      stored = alike_put H s t a i hi (with_name (the_mailbox i (boxes s)) n) (with_name (the_mailbox i (boxes t)) n) (λ j. with_name (own j) n) stays;
      lines = λ j. loud q (rename_lines (a.session j) (own j) (with_name (own j) n));
    }

    pub subscribed_left : (b q : ℕ) → AlikeEvent H (subscribed_to s i b q) (subscribed_to t i b q)
    subscribed_left b q = record {
      stored = alike_put H s t a i hi (with_attributes (the_mailbox i (boxes s)) (with_subscribed (the_mailbox i (boxes s)).attributes b)) (with_attributes (the_mailbox i (boxes t)) (with_subscribed (the_mailbox i (boxes t)).attributes b))
          (λ j. with_attributes (own j) (with_subscribed (own j).attributes b)) stays;
      lines = λ j. loud q (subscription_lines (a.session j) (own j) b);
    }

    pub granted_left : (r : ℕ) → Dark H s → AlikeEvent H (granted s i r) (granted t i r)
    granted_left r d = record {
      stored = alike_put H s t a i hi (with_rights (the_mailbox i (boxes s)) r) (with_rights (the_mailbox i (boxes t)) r) (λ j. with_rights (own j) r) stays;
      lines = λ j. rights_lines (a.session j) (own-parent d j) (own j) (with_rights (own j) r);
    }

  -- how many messages a mailbox that stays has
  same-counts : (s t : Memory) → Alike H s t → (x : Mailbox) → H x.id ≡ false → counts_of t x ≡ counts_of s x
  same-counts s t a x h = λ j. mail_items x.uidnext (length (filterb (λ (e : Message). not (expunged e)) (same_messages H s t a x.id h j))) (counter_of x)

  module _ (s t : Memory) (a : Alike H s t) (i : ℕ) (hi : H i ≡ false) where
    own' : the_mailbox i (boxes t) ≡ the_mailbox i (boxes s)
    own' = same_box H s t a i hi

    stays' : H (the_mailbox i (boxes s)).id ≡ false
    stays' = box_stays H h0 i hi (boxes s)

    chosen : is_selected t i ≡ is_selected s i
    chosen = ap (λ (k : ℕ). not (eqb i 0) && eqb i k) (same_id H s t a)

    seen : (u : ℕ) → in_view t i u ≡ in_view s i u
    seen u = λ j. (not (eqb i 0) && eqb i (a.session j).selected) && ltb u (a.session j).told

    -- its counter rises
    pub raised_left : (c : ℕ) → Alike H (raised s i c) (raised t i c)
    raised_left c = alike_put H s t a i hi (with_counter (the_mailbox i (boxes s)) c) (with_counter (the_mailbox i (boxes t)) c) (λ j. with_counter (own' j) c) stays'

    -- a status of this mailbox, by the groups
    asked-status : (asks : Group → Bool) (p q : Memory) → Alike H p q → (x y : Mailbox) → y ≡ x → H x.id ≡ false
        → status_lines y (asked_of t.session y asks) (counts_of q y) ≡ status_lines x (asked_of s.session x asks) (counts_of p x)
    asked-status asks p q b x y e h = (λ j. status_lines (e j) (asked_of (a.session j) (e j) asks) (counts_of q (e j))) ∙ ap (status_lines x (asked_of s.session x asks)) (same-counts p q b x h)

    pub arrived_left : (u f z c : ℕ) → length (mails s) < length s.entries → AlikeEvent H (arrived s i u f z c) (arrived t i u f z c)
    arrived_left u f z c room =
        let put : Alike H (put_box s i (with_next (the_mailbox i (boxes s)) (u + 1))) (put_box t i (with_next (the_mailbox i (boxes t)) (u + 1))) =
        alike_put H s t a i hi (with_next (the_mailbox i (boxes s)) (u + 1)) (with_next (the_mailbox i (boxes t)) (u + 1)) (λ j. with_next (own' j) (u + 1)) stays' in
        let after : Alike H (with_arrived s i u f z c) (with_arrived t i u f z c) =
        alike-add_mail H (put_box s i (with_next (the_mailbox i (boxes s)) (u + 1))) (put_box t i (with_next (the_mailbox i (boxes t)) (u + 1))) put (message i u f z c) hi room in
        let x = same_box H (with_arrived s i u f z c) (with_arrived t i u f z c) after i hi in
        record {
          stored = after;
          lines = λ j. cond (chosen j) (cond (same_new H s t a j) (same-announcing H (with_arrived s i u f z c) (with_arrived t i u f z c) after j) [])
              (asked-status asks_new (with_arrived s i u f z c) (with_arrived t i u f z c) after (the_mailbox i (boxes (with_arrived s i u f z c))) (the_mailbox i (boxes (with_arrived t i u f z c))) x (box_stays H h0 i hi (boxes (with_arrived s i u f z c))) j);
        }

    pub removed_left : (u : ℕ) → AlikeEvent H (removed s i u) (removed t i u)
    removed_left u = pick H (in_view s i u) (in_view t i u) (seen u) _ _ _ _
        (pick H (expunge_at_once s) (expunge_at_once t) (same-expunge H s t a) _ _ _ _
        (record {
          stored = a;
          lines = λ j. expunge (place_of u (same_view H s t a j)) (record { 0 = u }) ∷ [];
        })
        (record {
          stored = alike-change H s t a (expire i u) (λ e. kept_mailbox (is_message i u e) (with_states e 1) e refl);
          lines = refl;
        }))
        (record {
          stored = without;
          lines = λ j. cond (chosen j) [] (asked-status asks_expunge (drop_mails s (is_message i u)) (drop_mails t (is_message i u)) without (the_mailbox i (boxes s)) (the_mailbox i (boxes t)) own' stays' j);
        })
      where
        without : Alike H (drop_mails s (is_message i u)) (drop_mails t (is_message i u))
        without = alike-drop-mails H s t a (is_message i u)

    pub reflagged_left : (u f c : ℕ) → AlikeEvent H (reflagged s i u f c) (reflagged t i u f c)
    reflagged_left u f c = pick H (in_view s i u) (in_view t i u) (seen u) _ _ _ _
        (pick H (flags_at_once s) (flags_at_once t) (same_flags H s t a) _ _ _ _
        (record { stored = after; lines = λ j. flags_line (place_of u (same_view H s t a j)).0 (message i u f 0 c) ∷ [] })
        (pick H (flags_wait s) (flags_wait t) (same_wait H s t a) _ _ _ _
        (record {
          stored = alike-change H (change_mails s (reflag i u f c)) (change_mails t (reflag i u f c)) after (mark i u) (λ e. kept_mailbox (is_message i u e) (with_states e 2) e refl);
          lines = refl;
        })
        (record { stored = after; lines = refl })))
        (record {
          stored = after;
          lines = λ j. cond (chosen j) [] (status_lines (own' j) (asked_of (a.session j) (own' j) asks_flags) (changes_of (own' j)));
        })
      where
        after : Alike H (change_mails s (reflag i u f c)) (change_mails t (reflag i u f c))
        after = alike-change H s t a (reflag i u f c) (λ e. kept_mailbox (is_message i u e) (with_flags e f c) e refl)
