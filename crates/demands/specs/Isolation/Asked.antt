-- A command is answered alike in alike memories, if no id that is left out holds a right. Assumes nothing.
use Rattle.std.specs.Prelude.{◌≡◌, List, [], ◌∷◌, ◌++◌, Bool, true, false, not, ◌&&◌, ◌||◌, ℕ, ◌-◌, eqb, leb, length}
use Rattle.std.proofs.Math.Path.{refl}
use Rattle.std.proofs.Common.{◌∙◌, ap, eq-eqb}
use Rattle.std.proofs.Math.Bool.{cond}
use Rattle.std.proofs.lemmas.Bool.{not-true}
use Rattle.model.specs.Lists.{filterb, anyb, allb, sorted, concat_map, when}
use Rattle.model.specs.Laws.{tf, or_l, or_r, or_true, and_l, filter-within, all_filtered, all_passed, all-sorted, concat_same}
use Rattle.model.specs.Requests.{Filter, selected, delayed, inboxes, personal, subscribed, subtree, subtree_one, mailboxes, Search, Command, notify_none, notify_set, search}
use Rattle.model.specs.Reading.{Parsed, bad, ok}
use Rattle.model.specs.Commands.{tag_of, command_of}
use Rattle.model.specs.Limits.{limits}
use Rattle.model.specs.Replies.{reply_of}
use Rattle.model.specs.Memory.{Memory, boxes, name_of, may_list, may_read, counter_of, expunged}
use Rattle.model.specs.Groups.{asked_of, selected_asks, asks_messages, asks_mailbox}
use Rattle.model.specs.Lines.{Line, list, status, set_items, no_access, answer, render_all}
use Rattle.model.specs.Queue.{say}
use Rattle.model.specs.View.{owed}
use Rattle.model.specs.Listing.{listing, listing_line, concerns, by_name, asks_any, watching}
use Rattle.model.specs.Searching.{admits, or_selected, searched, candidates, matches, found_line, found_lines}
use Rattle.model.specs.Answering.{verb, verb_of, work_lines, accepted_lines, is_accepted, first_reply, within_queue, reply, answer_lines, session_by, with_asked, answered}
use Rattle.model.specs.Hidden.{visible, holds_right}
use Rattle.model.specs.declared.Mailbox.{Mailbox}
use Rattle.model.specs.declared.Message.{Message}
use Rattle.model.specs.declared.Session.{Session}
use Rattle.model.specs.declared.Reply.{Reply}
use Rattle.demands.specs.Isolation.Erase.{stays_box}
use Rattle.demands.specs.Isolation.Alike.{Alike, same_messages, alike-session}
use Rattle.demands.specs.Isolation.Spoken.{same_id, same_view, same-owed, alike-say}

-- no id of H holds a right
abbrev pub Dark : (ℕ → Bool) → Memory → Type 0
Dark H m = (i : ℕ) → H i ≡ true → holds_right i m ≡ false

-- so what only a mailbox with a right passes, only those that stay pass
dark-rows : (H : ℕ → Bool) (p : Mailbox → Bool) → ((x : Mailbox) → p x ≡ true → visible x ≡ true) → (l : List Mailbox)
    → ((i : ℕ) → H i ≡ true → anyb (λ (x : Mailbox). eqb x.id i && visible x) l ≡ false) → allb (λ (x : Mailbox). not (p x) || stays_box H x) l ≡ true
dark-rows H p h [] d = refl
dark-rows H p h (x ∷ l) d = go (H x.id) refl (p x) refl (dark-rows H p h l (λ i e. or_r (eqb x.id i && visible x) _ (d i e)))
  where
    go : (b : Bool) → H x.id ≡ b → (c : Bool) → p x ≡ c → allb (λ (x : Mailbox). not (p x) || stays_box H x) l ≡ true → allb (λ (x : Mailbox). not (p x) || stays_box H x) (x ∷ l) ≡ true
    go false f c g ih = rw (f, or_true (not (p x))) ih
    go true f false g ih = rw g ih
    go true f true g ih = tf (visible x) (h x g) (rw (eq-eqb x.id x.id refl) at (or_l (eqb x.id x.id && visible x) _ (d x.id f)))

module _ (H : ℕ → Bool) (s t : Memory) (a : Alike H s t) (d : Dark H s) where
  -- the mailboxes that a test finds, which only one with a right passes
  pub same-found-boxes : (p : Mailbox → Bool) → ((x : Mailbox) → p x ≡ true → visible x ≡ true) → filterb p (boxes t) ≡ filterb p (boxes s)
  same-found-boxes p h = ap (filterb p) a.box ∙ filter-within p (stays_box H) (boxes s) (dark-rows H p h (boxes s) d)

  -- and they stay
  found_stay : (p : Mailbox → Bool) → allb (stays_box H) (sorted by_name (filterb p (boxes t))) ≡ true
  found_stay p = all-sorted (stays_box H) by_name (filterb p (boxes t)) (all_filtered (stays_box H) p (boxes t) (rw a.box (all_passed (stays_box H) (boxes s))))

  pub listed : (x : Mailbox) → may_list x ≡ true → visible x ≡ true
  listed x e = rw e

  readable : (x : Mailbox) → may_read x ≡ true → visible x ≡ true
  readable x e = rw e (or_true (may_list x))

  -- ---- the listing
  same_line : (n : Session) (w : Bool) (x : Mailbox) → stays_box H x ≡ true → listing_line t n w x ≡ listing_line s n w x
  same_line n w x h = λ j. cond (may_read x)
      (when (w && (not (not (eqb x.id 0) && eqb x.id (same_id H s t a j)) && asked_of n x asks_messages))
      (status (name_of x) (set_items (length (filterb (λ (e : Message). not (expunged e)) (same_messages H s t a x.id (not-true (H x.id) h) j))) x.uidnext x.uidvalidity (counter_of x))))
      (list no_access (name_of x) ∷ [])

  same-applies : (n : Session) (x : Mailbox) → concerns t n x ≡ concerns s n x
  same-applies n x = λ j. cond (not (eqb x.id 0) && eqb x.id (same_id H s t a j)) (selected_asks n asks_any || asked_of n x asks_mailbox) (asked_of n x asks_any)

  pub same-listing : (n : Session) (w : Bool) → listing t n w ≡ listing s n w
  same-listing n w =
      concat_same (listing_line t n w) (listing_line s n w) (stays_box H) (same_line n w) (sorted by_name (filterb (λ (x : Mailbox). may_list x && concerns t n x) (boxes t))) (found_stay (λ (x : Mailbox). may_list x && concerns t n x))
      ∙ ap (λ (l : List Mailbox). concat_map (listing_line s n w) (sorted by_name l))
      ((λ j. filterb (λ (x : Mailbox). may_list x && same-applies n x j) (boxes t))
      ∙ same-found-boxes (λ (x : Mailbox). may_list x && concerns s n x) (λ x e. listed x (and_l (may_list x) _ e)))

  -- ---- the search
  same-admits : (x : Mailbox) (f : Filter) → admits t x f ≡ admits s x f
  same-admits x selected = λ j. not (eqb x.id 0) && eqb x.id (same_id H s t a j)
  same-admits x delayed = refl
  same-admits x inboxes = refl
  same-admits x personal = refl
  same-admits x subscribed = refl
  same-admits x (subtree n ns) = refl
  same-admits x (subtree_one n ns) = refl
  same-admits x (mailboxes n ns) = refl

  same-searched : (fs : List Filter) → searched t fs ≡ searched s fs
  same-searched fs = ap (sorted by_name)
      ((λ j. filterb (λ (x : Mailbox). may_read x && anyb (λ (f : Filter). same-admits x f j) fs) (boxes t))
      ∙ same-found-boxes (λ (x : Mailbox). may_read x && anyb (admits s x) fs) (λ x e. readable x (and_l (may_read x) _ e)))

  same-candidates : (x : Mailbox) → stays_box H x ≡ true → candidates t x ≡ candidates s x
  same-candidates x h = λ j. cond (not (eqb x.id 0) && eqb x.id (same_id H s t a j)) (same_view H s t a j) (same_messages H s t a x.id (not-true (H x.id) h) j)

  pub same-search : (tag : List ℕ) (q : Search) → found_lines t tag q ≡ found_lines s tag q
  same-search tag q =
      concat_same (λ (x : Mailbox). found_line tag q x (matches q.keys (candidates t x))) (λ (x : Mailbox). found_line tag q x (matches q.keys (candidates s x))) (stays_box H)
      (λ x h. ap (λ (l : List Message). found_line tag q x (matches q.keys l)) (same-candidates x h))
      (searched t (or_selected q.sources)) (found_stay (λ (x : Mailbox). may_read x && anyb (admits t x) (or_selected q.sources)))
      ∙ ap (concat_map (λ (x : Mailbox). found_line tag q x (matches q.keys (candidates s x)))) (same-searched (or_selected q.sources))

  -- ---- the answer
  same_work : (tag : List ℕ) (c : Command) → work_lines t tag c ≡ work_lines s tag c
  same_work tag notify_none = refl
  same_work tag (notify_set w gs) = (λ j. same-owed H s t a 1 j ++ listing t (watching (a.session j) gs) w) ∙ ap (λ (ls : List Line). owed s 1 ++ ls) (same-listing (watching s.session gs) w)
  same_work tag (search q) = same-search tag q

  same-accepted : (tag : List ℕ) (c : Parsed Command) → accepted_lines t tag c ≡ accepted_lines s tag c
  same-accepted tag bad = refl
  same-accepted tag (ok p c) = ap (λ (ls : List Line). ls ++ (answer tag (verb_of c) Reply.Accepted ∷ [])) (same_work tag c)

  same_first : (x : List ℕ) → first_reply t x ≡ first_reply s x
  same_first x = λ j. reply_of limits (not (eqb (same_id H s t a j) 0)) (command_of x)

  same-within : (ls : List Line) → within_queue t ls ≡ within_queue s ls
  same-within ls = λ j. leb (length (render_all ls)) (a.wide j - 64)

  same-reply : (x : List ℕ) → reply t x ≡ reply s x
  same-reply x = λ j. cond (is_accepted (same_first x j) && not ((ap (within_queue t) (same-accepted (tag_of x) (command_of x)) ∙ same-within (accepted_lines s (tag_of x) (command_of x))) j)) Reply.TooLarge (same_first x j)

  pub same_answer : (x : List ℕ) → answer_lines t x ≡ answer_lines s x
  unfolding answer_lines
  same_answer x = λ j. cond (is_accepted (same-reply x j)) (same-accepted (tag_of x) (command_of x) j) (answer (tag_of x) (verb (command_of x)) (same-reply x j) ∷ [])

  -- the session that a command sets keeps the selected mailbox
  kept-selected : (c : Parsed Command) (n : Session) → (session_by c n).selected ≡ n.selected
  kept-selected bad n = refl
  kept-selected (ok p notify_none) n = refl
  kept-selected (ok p (notify_set w gs)) n = refl
  kept-selected (ok p (search q)) n = refl

  pub alike-answered : (x : List ℕ) → Alike H (answered s x) (answered t x)
  unfolding answered
  alike-answered x = go (is_accepted (reply s x)) refl
    where
      said : Alike H (say s (answer_lines s x)) (say t (answer_lines t x))
      said = rw (same_answer x) (alike-say H s t a (answer_lines s x))

      go : (b : Bool) → is_accepted (reply s x) ≡ b → Alike H (cond (is_accepted (reply s x)) (with_asked (say s (answer_lines s x)) (command_of x)) (say s (answer_lines s x))) (cond (is_accepted (reply t x)) (with_asked (say t (answer_lines t x)) (command_of x)) (say t (answer_lines t x)))
      go true e = rw (same-reply x, e) (alike-session H (say s (answer_lines s x)) (say t (answer_lines t x)) said _ _ (ap (session_by (command_of x)) said.session) (ap H (kept-selected (command_of x) (say s (answer_lines s x)).session) ∙ said.awake))
      go false e = rw (same-reply x, e) said
