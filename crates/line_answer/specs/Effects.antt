-- What the lines of an answer end: only those that a class 1 end owes end anything. Assumes nothing.
use Rattle.std.specs.Prelude.{◌≡◌, refl, Bool, true, false, not, cond, ◌&&◌, List, [], ◌∷◌, ◌++◌, ℕ, length}
use Rattle.std.proofs.Common.{ap, ◌∙◌}
use Rattle.model.specs.Lists.{concat_map, when, sorted, filterb}
use Rattle.model.specs.Memory.{Memory, boxes, mails, name_of, may_read, may_list, is_selected, existing, counter_of, change_mails}
use Rattle.model.specs.Groups.{asked_of, asks_messages}
use Rattle.model.specs.Lines.{Line, status, set_items, list, renamed, exists, expunge, fetch, found, overflow, answer, no_access}
use Rattle.model.specs.Queue.{enqueue, effect, effects, shows_flags, unmark}
use Rattle.model.specs.Requests.{Search}
use Rattle.model.specs.Listing.{listing, listing_line, concerns, by_name}
use Rattle.model.specs.Searching.{found_line, found_lines, searched, or_selected, matches, candidates, results}
use Rattle.model.specs.declared.Mailbox.{Mailbox}
use Rattle.model.specs.declared.Session.{Session}
use Rattle.model.specs.declared.Uid.{Uid}
use Rattle.model.specs.Rendered.{effects-append}

-- lines that are written and what they end do not meddle
effect-enqueue : (m : Memory) (t : List ℕ) (l : Line) → effect (enqueue m t) l ≡ enqueue (effect m l) t
effect-enqueue m t (status n is) = refl
effect-enqueue m t (list k n) = refl
effect-enqueue m t (renamed k new old) = refl
effect-enqueue m t (exists n) = refl
effect-enqueue m t (expunge n u) = refl
effect-enqueue m t (fetch n u is) = go (shows_flags is)
  where
    go : (b : Bool) → cond b (change_mails (enqueue m t) (unmark m.session.selected u.0)) (enqueue m t)
        ≡ enqueue (cond b (change_mails m (unmark m.session.selected u.0)) m) t
    go true = refl
    go false = refl
effect-enqueue m t (found g n v rs) = refl
effect-enqueue m t overflow = refl
effect-enqueue m t (answer g v r) = refl

pub effects-enqueue : (m : Memory) (t : List ℕ) (ls : List Line) → effects (enqueue m t) ls ≡ enqueue (effects m ls) t
unfolding effects
effects-enqueue m t [] = refl
effects-enqueue m t (l ∷ ls) = ap (λ (j : Memory). effects j ls) (effect-enqueue m t l) ∙ effects-enqueue (effect m l) t ls

-- ---- lines that end nothing
abbrev pub Still : List Line → Type 0
Still ls = (j : Memory) → effects j ls ≡ j

still_none : Still []
unfolding effects
still_none j = refl

pub still_one : (l : Line) → ((j : Memory) → effect j l ≡ j) → Still (l ∷ [])
unfolding effects
still_one l h j = h j

pub still_both : (a b : List Line) → Still a → Still b → Still (a ++ b)
still_both a b x y j = effects-append j a b ∙ (ap (λ (k : Memory). effects k b) (x j) ∙ y j)

still-each : {A : Type 0} (f : A → List Line) → ((x : A) → Still (f x)) → (l : List A) → Still (concat_map f l)
still-each f h [] = still_none
still-each f h (x ∷ l) = still_both (f x) (concat_map f l) (h x) (still-each f h l)

pub still-listing : (m : Memory) (s : Session) (wanted : Bool) → Still (listing m s wanted)
still-listing m s wanted = still-each (listing_line m s wanted) one (sorted by_name (filterb (λ (x : Mailbox). may_list x && concerns m s x) (boxes m)))
  where
    go : (r b : Bool) (u v : Line) → ((j : Memory) → effect j u ≡ j) → ((j : Memory) → effect j v ≡ j) → Still (cond r (when b u) (v ∷ []))
    go true true u v h k = still_one u h
    go true false u v h k = still_none
    go false b u v h k = still_one v k

    one : (x : Mailbox) → Still (listing_line m s wanted x)
    one x =
        go (may_read x) (wanted && (not (is_selected m x.id) && asked_of s x asks_messages))
        (status (name_of x) (set_items (length (existing x.id (mails m))) x.uidnext x.uidvalidity (counter_of x))) (list no_access (name_of x)) (λ j. refl) (λ j. refl)

pub still-found : (m : Memory) (tag : List ℕ) (q : Search) → Still (found_lines m tag q)
still-found m tag q = still-each (λ (x : Mailbox). found_line tag q x (matches q.keys (candidates m x))) (λ x. one x (matches q.keys (candidates m x)))
    (searched m (or_selected q.sources))
  where
    one : (x : Mailbox) (us : List Uid) → Still (found_line tag q x us)
    one x [] = still_none
    one x (u ∷ us) = still_one (found tag (name_of x) x.uidvalidity (results q u us)) (λ j. refl)
