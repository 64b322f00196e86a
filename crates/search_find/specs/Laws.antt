-- A list of what was found grows by one, or not: what is left to look at says the rest. Assumes nothing.
use Rattle.std.specs.Prelude.{◌≡◌, Bool, true, false, not, ◌&&◌, ℕ, zero, suc, ◌+◌, ◌-◌, ◌<◌, ◌≤◌, ltb, length, take, get_or, set}
use Rattle.std.proofs.Math.Path.{refl, ap, ap₂, sym}
use Rattle.std.proofs.Common.{◌∙◌, add-one, length-set, take-suc-set, get_or-set_same}
use Rattle.std.proofs.Math.Bool.{cond}
use mathlib.Core.List.{List, [], ◌∷◌, ◌++◌, map, append_assoc, append-nil}
use native.Mathlib.Omega.{arith}
use Rattle.model.specs.Lists.{filterb, keep, last_or}
use Rattle.model.specs.Memory.{no_message, uid_of, expunged}
use Rattle.model.specs.Requests.{Keys}
use Rattle.model.specs.Searching.{holds_all, matching, last_uid_of, matches}
use Rattle.model.specs.declared.Message.{Message}
use Rattle.model.specs.declared.Uid.{Uid}
use Rattle.match_keys.specs.Tests.{candidate, TestsAll}
use Rattle.match_keys.specs.declared.Probe.{Probe}
use Rattle.order_messages.specs.Chosen.{chosen, chosen_more, chosen-set}
use Rattle.search_find.specs.Finds.{uids_of, Held, Pushed, Hits, Finds, Keeps}

module _ (l : List ℕ) (r x : ℕ) (on : Bool) where
  pub pushed_on : on ≡ true → Pushed l r x on (set l r x) (r + 1)
  pushed_on e = record { list = ap (λ (t : Bool). cond t (set l r x) l) (sym e); next = ap (λ (t : Bool). cond t (r + 1) r) (sym e); long = length-set l r x; most = omega arith }

  pub pushed_off : on ≡ false → Pushed l r x on l r
  pushed_off e = record { list = ap (λ (t : Bool). cond t (set l r x) l) (sym e); next = ap (λ (t : Bool). cond t (r + 1) r) (sym e); long = refl; most = omega arith }

-- what the list holds then
taken : (l : List ℕ) (r x : ℕ) (on : Bool) (l' : List ℕ) (r' : ℕ) → r < length l → l' ≡ cond on (set l r x) l → r' ≡ cond on (r + 1) r → take r' l' ≡ cond on (take r l ++ (x ∷ [])) (take r l)
taken l r x true l' r' h e f = ap₂ (λ (n : ℕ) (k : List ℕ). take n k) f e ∙ rw (add-one r) (take-suc-set l r x h)
taken l r x false l' r' h e f = ap₂ (λ (n : ℕ) (k : List ℕ). take n k) f e

uids-append : (a b : List ℕ) → uids_of (a ++ b) ≡ uids_of a ++ uids_of b
uids-append [] b = refl
uids-append (x ∷ a) b = ap (λ (l : List Uid). record { 0 = x } ∷ l) (uids-append a b)

grown : (a : List ℕ) (u : Uid) (on : Bool) (rest : List Uid) → uids_of (cond on (a ++ (u.0 ∷ [])) a) ++ rest ≡ uids_of a ++ cond on (u ∷ rest) rest
grown a u true rest = ap (λ (l : List Uid). l ++ rest) (uids-append a (u.0 ∷ [])) ∙ append_assoc (uids_of a) (u ∷ []) rest
grown a u false rest = refl

-- ---- a message
module _ (cells : List ℕ) (p : Probe) where
  pub hit_not : expunged p.message ≡ true → Hits cells p false
  hit_not e ks h = ap (λ (t : Bool). not t && holds_all ks (candidate p)) (sym e)

  pub hit_by_lem : expunged p.message ≡ false → (r : Bool) → TestsAll cells p r → Hits cells p r
  hit_by_lem e r t ks h = t ks h.0 h.1 ∙ ap (λ (t : Bool). not t && holds_all ks (candidate p)) (sym e)

-- ---- an order
chosen_top : (es : List Message) (order : List ℕ) (k : ℕ) (e : Message) → 0 < k → e ≡ get_or es (get_or order (k - 1) 0) no_message → chosen es order k ≡ e ∷ chosen es order (k - 1)
chosen_top es order k e h q =
    let z : k ≡ k - 1 + 1 = omega arith in
    ap (chosen es order) z ∙ (chosen_more es order (k - 1) ∙ ap (λ (x : Message). x ∷ chosen es order (k - 1)) (sym q))

chosen-length : (es : List Message) (order : List ℕ) (n : ℕ) → length (chosen es order n) ≡ n
unfolding chosen
chosen-length es order zero = refl
chosen-length es order (suc n) = ap suc (chosen-length es order n)

last-suc : (es : List Message) (order : List ℕ) (n : ℕ) (d : Uid) → last_or d (map (λ (e : Message). e.uid) (chosen es order (suc n))) ≡ (get_or es (get_or order 0 0) no_message).uid
unfolding chosen
last-suc es order zero d = refl
last-suc es order (suc n) d = last-suc es order n (get_or es (get_or order (suc n) 0) no_message).uid

last_is : (es : List Message) (order : List ℕ) (n : ℕ) → (n ≡ 0 → ⊥) → last_uid_of (chosen es order n) ≡ (get_or es (get_or order 0 0) no_message).uid
last_is es order zero h = absurd (h refl)
last_is es order (suc n) h = last-suc es order n (record { 0 = 0 })

-- ---- the search: k are still to be looked at, r were found
pub record Sought (es : List Message) (order : List ℕ) (n : ℕ) (cells : List ℕ) (last : Uid) (uids₀ uids : List ℕ) (k r : ℕ) : Type 0 where
  pub few : r + k ≤ n
  pub long : length uids ≡ length uids₀
  pub exact : (ks : Keys) → Held cells ks → uids_of (take r uids) ++ matching ks (record { 0 = n }) last (n - k + 1) (chosen es order k) ≡ matching ks (record { 0 = n }) last 1 (chosen es order n)

module _ (es : List Message) (order : List ℕ) (n : ℕ) (cells : List ℕ) where
  pub find_none : n ≡ 0 → (uids : List ℕ) → Finds es order n cells uids uids 0
  unfolding chosen matching
  find_none e uids = record { few = omega arith; long = refl; exact = λ ks h. ap (λ (m : ℕ). matches ks (chosen es order m)) (sym e) }

  module _ (last : Uid) (uids₀ : List ℕ) where
    pub sought_start : Sought es order n cells last uids₀ uids₀ n 0
    sought_start = record {
      few = omega arith;
      long = refl;
      exact = λ ks h. ap (λ (m : ℕ). matching ks (record { 0 = n }) last m (chosen es order n)) (let z : n - n + 1 ≡ 1 = omega arith in z);
    }

    module _ (uids : List ℕ) (k r : ℕ) (s : Sought es order n cells last uids₀ uids k r) where
      module _ (h : 0 < k) (e : Message) (q : e ≡ get_or es (get_or order (k - 1) 0) no_message) (on : Bool)
          (t : Hits cells (record { message = e; number = record { 0 = n - (k - 1) }; lastnumber = record { 0 = n }; lastuid = last }) on)
          (w : r < length uids) (uids' : List ℕ) (r' : ℕ) (p : Pushed uids r e.uid.0 on uids' r') where
        front : (ks : Keys) → Held cells ks
            → matching ks (record { 0 = n }) last (n - k + 1) (chosen es order k) ≡ cond on (e.uid ∷ matching ks (record { 0 = n }) last (n - (k - 1) + 1) (chosen es order (k - 1))) (matching ks (record { 0 = n }) last (n - (k - 1) + 1) (chosen es order (k - 1)))
        unfolding matching
        front ks g =
            let f = s.few in
            ap₂ (λ (j : ℕ) (l : List Message). matching ks (record { 0 = n }) last j l) (let z : n - k + 1 ≡ n - (k - 1) = omega arith in z) (chosen_top es order k e h q)
            ∙ ap (λ (b : Bool). cond b (e.uid ∷ matching ks (record { 0 = n }) last (n - (k - 1) + 1) (chosen es order (k - 1))) (matching ks (record { 0 = n }) last (n - (k - 1) + 1) (chosen es order (k - 1)))) (sym (t ks g))

        pub sought_next : Sought es order n cells last uids₀ uids' (k - 1) r'
        sought_next =
            let m = p.most in
            let f = s.few in
            record {
              few = omega arith;
              long = p.long ∙ s.long;
              exact = λ ks g.
                  ap (λ (l : List ℕ). uids_of l ++ matching ks (record { 0 = n }) last (n - (k - 1) + 1) (chosen es order (k - 1))) (taken uids r e.uid.0 on uids' r' w p.list p.next)
                  ∙ (grown (take r uids) e.uid on (matching ks (record { 0 = n }) last (n - (k - 1) + 1) (chosen es order (k - 1)))
                  ∙ (ap (λ (l : List Uid). uids_of (take r uids) ++ l) (sym (front ks g))
                  ∙ s.exact ks g));
            }

      pub sought_end : k ≤ 0 → (n ≡ 0 → ⊥) → last ≡ (get_or es (get_or order 0 0) no_message).uid → Finds es order n cells uids₀ uids r
      unfolding chosen matching
      sought_end h some q =
          let f = s.few in
          let z : k ≡ 0 = omega arith in
          record {
            few = omega arith;
            long = s.long;
            exact = λ ks g.
                sym (append-nil (uids_of (take r uids)))
                ∙ (ap (λ (l : List Uid). uids_of (take r uids) ++ l) (none ks)
                ∙ (ap (λ (j : ℕ). uids_of (take r uids) ++ matching ks (record { 0 = n }) last (n - j + 1) (chosen es order j)) (sym z)
                ∙ (s.exact ks g
                ∙ ap₂ (λ (m : ℕ) (u : Uid). matching ks (record { 0 = m }) u 1 (chosen es order n)) (sym (chosen-length es order n)) (q ∙ sym (last_is es order n some)))));
          }
        where
          none : (ks : Keys) → [] ≡ matching ks (record { 0 = n }) last (n - 0 + 1) (chosen es order 0)
          none ks = refl

-- ---- the view
pub record Keeping (es : List Message) (order : List ℕ) (n told : ℕ) (view₀ view : List ℕ) (i r : ℕ) : Type 0 where
  pub few : r ≤ i
  pub in_order : i ≤ n
  pub long : length view ≡ length view₀
  pub exact : chosen es view r ≡ filterb (λ (e : Message). ltb (uid_of e) told) (chosen es order i)

module _ (es : List Message) (order : List ℕ) (n told : ℕ) (view₀ : List ℕ) where
  pub keeping_start : Keeping es order n told view₀ view₀ 0 0
  unfolding chosen
  keeping_start = record { few = omega arith; in_order = omega arith; long = refl; exact = refl }

  module _ (view : List ℕ) (i r : ℕ) (s : Keeping es order n told view₀ view i r) where
    pub keeping_next : i < n → (e : Message) → e ≡ get_or es (get_or order i 0) no_message → (on : Bool) → on ≡ ltb (uid_of e) told → r < length view → (view' : List ℕ) (r' : ℕ) → Pushed view r (get_or order i 0) on view' r' → Keeping es order n told view₀ view' (i + 1) r'
    keeping_next h e q on t w view' r' p =
        let m = p.most in
        let f = s.few in
        record {
          few = omega arith;
          in_order = omega arith;
          long = p.long ∙ s.long;
          exact =
              ap₂ (λ (l : List ℕ) (j : ℕ). chosen es l j) p.list p.next
              ∙ (more on
              ∙ (ap₂ (λ (x : Message) (l : List Message). keep on x l) (sym q) s.exact
              ∙ (ap (λ (b : Bool). keep b e (filterb (λ (e : Message). ltb (uid_of e) told) (chosen es order i))) t
              ∙ sym (ap (filterb (λ (e : Message). ltb (uid_of e) told)) (chosen_more es order i ∙ ap (λ (x : Message). x ∷ chosen es order i) (sym q))))));
        }
      where
        more : (b : Bool) → chosen es (cond b (set view r (get_or order i 0)) view) (cond b (r + 1) r) ≡ keep b (get_or es (get_or order i 0) no_message) (chosen es view r)
        more true = chosen_more es (set view r (get_or order i 0)) r ∙ ap₂ (λ (j : ℕ) (l : List Message). get_or es j no_message ∷ l) (get_or-set_same view r (get_or order i 0) 0 w) (chosen-set es view r r (get_or order i 0) (omega arith))
        more false = refl

    pub keeping_end : n ≤ i → Keeps es order n told view₀ view r
    keeping_end h =
        let f = s.few in
        let g = s.in_order in
        record { few = omega arith; long = s.long; exact = s.exact ∙ ap (λ (j : ℕ). filterb (λ (e : Message). ltb (uid_of e) told) (chosen es order j)) (let z : i ≡ n = omega arith in z) }
