-- The table after a pass: some entries go, those that stay move up and may be changed, and what was freed is nothing. Assumes nothing.
use Rattle.std.specs.Prelude.{◌≡◌, refl, Bool, true, false, cond, ◌&&◌, List, [], ◌∷◌, ◌++◌, map, ℕ, zero, suc, ◌+◌, ◌*◌, ◌-◌, ◌<◌, ◌≤◌, max, eqb, ltb, length, take, drop, get_or, set, replicate}
use Rattle.std.proofs.Math.Path.{ap}
use Rattle.std.proofs.Common.{ap₂, sym, ◌∙◌, append_assoc, append-nil, add-one, eqb-true, le-ltb, take-append-drop, length-append, take-suc, drop-cons, get_or-append-add, get_or-drop, take_at, length-take-le, drop-drop}
use Rattle.std.proofs.Math.Bool.{not}
use native.Mathlib.Omega.{arith}
use Rattle.std.proofs.lemmas.List.{length-replicate, set-get_or}
use Rattle.std.proofs.Math.Seq.{set-append_seam, drop-append-add}
use Rattle.model.specs.Lists.{filterb}
use Rattle.model.specs.Laws.{tf, and_l, and_r, and_false, filter-append, map-append}
use Rattle.model.specs.Memory.{no_message, uid_of, in_mailbox, expunged, marked, with_states, refill}
use Rattle.model.specs.declared.Message.{Message}
use Rattle.table_messages.specs.Words.{messages, messages-length, stored}
use Rattle.table_messages.specs.Laid.{laid, laid_own, laid-entries, laid_then, laid_put}
use Rattle.table_sweep.specs.declared.Sweep.{Sweep}
use Rattle.table_sweep.specs.declared.Sweep.TheVariants.{Rested, Told, Deleted}

-- which entries a pass drops: all that are expunged; those whose EXPUNGE was written; all of a mailbox
abbrev pub goes : Sweep → Message → Bool
goes Rested e = expunged e
goes (Told id gone shown) e = expunged e && (in_mailbox id e && ltb (uid_of e) gone.0)
goes (Deleted id) e = in_mailbox id e

-- what one that stays becomes: none waits any more; one whose FETCH was written does not; as it was
abbrev pub calm : Sweep → Message → Message
calm Rested e = with_states e 0
calm (Told id gone shown) e = cond (marked e && (in_mailbox id e && ltb (uid_of e) shown.0)) (with_states e 0) e
calm (Deleted id) e = e

-- no line was told of any entry
abbrev pub idle : Sweep → Bool
idle Rested = false
idle (Told id gone shown) = eqb gone.0 0 && eqb shown.0 0
idle (Deleted id) = false

-- what stays of a list
unfoldable pub kept : Sweep → List Message → List Message
kept sweep l = map (calm sweep) (filterb (λ (e : Message). not (goes sweep e)) l)

-- ---- a list laid over the front of another
module _ {A : Type 0} (z : A) where
  pub over_get : (k es : List A) (o i : ℕ) → o ≡ length k → o ≤ i → get_or (k ++ drop o es) i z ≡ get_or es i z
  over_get k es o i e h =
      let a : i ≡ length k + (i - o) = omega arith in
      let b : o + (i - o) ≡ i = omega arith in
      ap (λ (j : ℕ). get_or (k ++ drop o es) j z) a ∙ (get_or-append-add k (drop o es) (i - o) z ∙ (get_or-drop o es (i - o) z ∙ ap (λ (j : ℕ). get_or es j z) b))

  pub over-set : (k es : List A) (o : ℕ) (x : A) → o ≡ length k → o < length es → set (k ++ drop o es) o x ≡ (k ++ (x ∷ [])) ++ drop (o + 1) es
  over-set k es o x e h =
      ap₂ (λ (l : List A) (j : ℕ). set (k ++ l) j x) (drop-cons es o z h) e
      ∙ (set-append_seam k (get_or es o z) (drop (suc o) es) x
      ∙ (sym (append_assoc k (x ∷ []) (drop (suc o) es)) ∙ ap (λ (j : ℕ). (k ++ (x ∷ [])) ++ drop j es) (sym (add-one o))))

  pub replicate_more : (n : ℕ) → replicate n z ++ (z ∷ []) ≡ replicate (n + 1) z
  replicate_more zero = refl
  replicate_more (suc n) = let e : suc n + 1 ≡ suc (n + 1) = omega arith in rw e (ap (λ (l : List A). z ∷ l) (replicate_more n))

-- ---- an entry that is as it was
calm_same : (sweep : Sweep) (e : Message) → (calm sweep e).states ≡ e.states → calm sweep e ≡ e
calm_same Rested e h = ap (with_states e) h
calm_same (Told id gone shown) e h = go (marked e && (in_mailbox id e && ltb (uid_of e) shown.0)) h
  where
    go : (b : Bool) → (cond b (with_states e 0) e).states ≡ e.states → cond b (with_states e 0) e ≡ e
    go true h = ap (with_states e) h
    go false h = refl
calm_same (Deleted id) e h = refl

stored_same : (ws : List ℕ) (i : ℕ) (e : Message) → e ≡ get_or (messages ws) i no_message → (i + 1) * 6 ≤ length ws → stored ws i e ≡ ws
stored_same ws i e h w = laid_put ws ws (messages ws) i e (laid_own ws) w ∙ (ap (laid ws) (ap (set (messages ws) i) h ∙ set-get_or (messages ws) i no_message) ∙ sym (laid_own ws))

-- nothing below 0 is told
below_none : (a b : Bool) (u n : ℕ) → n ≡ 0 → (a && (b && ltb u n)) ≡ false
below_none a b u n z = ap (λ (c : Bool). a && (b && c)) (le-ltb u n (omega arith)) ∙ (ap (λ (c : Bool). a && c) (and_false b) ∙ and_false a)

-- a pass that is idle leaves all
kept_idle : (sweep : Sweep) (l : List Message) → idle sweep ≡ true → kept sweep l ≡ l
unfolding kept
kept_idle Rested l h = tf false h refl
kept_idle (Told id gone shown) l h = same l
  where
    same : (l : List Message) → map (calm (Told id gone shown)) (filterb (λ (e : Message). not (goes (Told id gone shown) e)) l) ≡ l
    same [] = refl
    same (e ∷ l) =
        let a : goes (Told id gone shown) e ≡ false = below_none (expunged e) (in_mailbox id e) (uid_of e) gone.0 (eqb-true gone.0 0 (and_l (eqb gone.0 0) (eqb shown.0 0) h)) in
        let b : (marked e && (in_mailbox id e && ltb (uid_of e) shown.0)) ≡ false = below_none (marked e) (in_mailbox id e) (uid_of e) shown.0
        (eqb-true shown.0 0 (and_r (eqb gone.0 0) (eqb shown.0 0) h)) in
        rw (a, b) (ap (λ (t : List Message). e ∷ t) (same l))
kept_idle (Deleted id) l h = tf false h refl

module _ (sweep : Sweep) where
  kept-snoc : (l : List Message) (e : Message) → kept sweep (l ++ (e ∷ [])) ≡ kept sweep l ++ kept sweep (e ∷ [])
  unfolding kept
  kept-snoc l e =
      ap (map (calm sweep)) (filter-append (λ (x : Message). not (goes sweep x)) l (e ∷ []))
      ∙ map-append (calm sweep) (filterb (λ (x : Message). not (goes sweep x)) l) (filterb (λ (x : Message). not (goes sweep x)) (e ∷ []))

  kept_stay : (e : Message) → goes sweep e ≡ false → kept sweep (e ∷ []) ≡ calm sweep e ∷ []
  unfolding kept
  kept_stay e h = rw h

  kept-go : (e : Message) → goes sweep e ≡ true → kept sweep (e ∷ []) ≡ []
  unfolding kept
  kept-go e h = rw h

  -- the pass: the words vs before it, ws now; entries below i are passed, o of them stay
  pub record Passing (vs ws : List ℕ) (i o : ℕ) : Type 0 where
    pub is : ws ≡ laid vs (kept sweep (take i (messages vs)) ++ drop o (messages vs))
    pub count : o ≡ length (kept sweep (take i (messages vs)))
    pub most : o ≤ i

  pub passing_start : (vs : List ℕ) → Passing vs vs 0 0
  unfolding kept
  passing_start vs = record { is = laid_own vs; count = refl; most = omega arith }

  pub passed : (vs ws : List ℕ) (i o used : ℕ) → i ≡ used → Passing vs ws i o
      → (ws ≡ laid vs (kept sweep (take used (messages vs)) ++ drop o (messages vs))) × (o ≡ length (kept sweep (take used (messages vs)))) × (o ≤ used)
  passed vs ws i o used e p = rw (← e) (p.is, p.count, p.most)

  module _ (vs ws : List ℕ) (i o : ℕ) (p : Passing vs ws i o) (h : i < length (messages vs)) (e : Message) (q : e ≡ get_or (messages ws) i no_message) where
    abbrev es : List Message
    es = messages vs

    abbrev stay : List Message
    stay = kept sweep (take i es)

    own : e ≡ get_or es i no_message
    own = q ∙ (ap (λ (l : List Message). get_or l i no_message) (laid-entries vs ws (stay ++ drop o es) p.is) ∙ over_get no_message stay es o i p.count p.most)

    grow : kept sweep (take (i + 1) es) ≡ stay ++ kept sweep (e ∷ [])
    grow = rw (add-one i) (ap (kept sweep) (take-suc es i no_message h ∙ ap (λ (x : Message). take i es ++ (x ∷ [])) (sym own)) ∙ kept-snoc (take i es) e)

    pub passing-go : goes sweep e ≡ true → Passing vs ws (i + 1) o
    passing-go z =
        let g : kept sweep (take (i + 1) es) ≡ stay = grow ∙ (ap (λ (l : List Message). stay ++ l) (kept-go e z) ∙ append-nil stay) in
        record { is = p.is ∙ ap (λ (l : List Message). laid vs (l ++ drop o es)) (sym g); count = p.count ∙ ap length (sym g); most = let m = p.most in omega arith }

    pub passing_stay : (x : Message) → x ≡ calm sweep e → goes sweep e ≡ false → (o + 1) * 6 ≤ length ws → Passing vs (stored ws o x) (i + 1) (o + 1)
    passing_stay x y z w =
        let g : kept sweep (take (i + 1) es) ≡ stay ++ (x ∷ []) = grow ∙ ap (λ (l : List Message). stay ++ l) (kept_stay e z ∙ ap (λ (w : Message). w ∷ []) (sym y)) in
        let m = p.most in
        let n = p.count in
        let l = length-append stay (x ∷ []) in
        record {
          is = laid_put vs ws (stay ++ drop o es) o x p.is w ∙ ap (laid vs) (over-set no_message stay es o x n (omega arith) ∙ ap (λ (t : List Message). t ++ drop (o + 1) es) (sym g));
          count = let w = ap length g in omega arith;
          most = omega arith;
        }

    -- an entry that becomes what it is needs no writing where it stands
    pub passing-rest : (x : Message) → x ≡ calm sweep e → goes sweep e ≡ false → o ≡ i → x.states ≡ e.states → (o + 1) * 6 ≤ length ws → Passing vs ws (i + 1) (o + 1)
    passing-rest x y z a b w =
        let f : x ≡ get_or (messages ws) o no_message = (y ∙ (calm_same sweep e (sym (ap (λ (m : Message). m.states) y) ∙ b) ∙ q)) ∙ ap
        (λ (j : ℕ). get_or (messages ws) j no_message) (sym a) in
        rw (stored_same ws o x f w) at (passing_stay x y z w)

-- one entry is passed, whatever the words were before the pass
pub record Moves (sweep : Sweep) (ws : List ℕ) (i o : ℕ) (ws' : List ℕ) (r : ℕ) : Type 0 where
  pub moved : (vs : List ℕ) → i < length (messages vs) → Passing sweep vs ws i o → Passing sweep vs ws' (i + 1) r

-- ---- freed entries become nothing
module _ (vs : List ℕ) (from : ℕ) where
  abbrev wiped : ℕ → List Message
  wiped j = (take from (messages vs) ++ replicate (j - from) no_message) ++ drop j (messages vs)

  pub record Wiping (ws : List ℕ) (j : ℕ) : Type 0 where
    pub is : ws ≡ laid vs (wiped j)

  pub wiping_start : Wiping vs from
  wiping_start =
      let z : from - from ≡ 0 = omega arith in
      record {
        is =
            laid_own vs
            ∙ ap (laid vs)
            (sym
            (ap (λ (n : ℕ). (take from (messages vs) ++ replicate n no_message) ++ drop from (messages vs)) z
            ∙ (ap (λ (l : List Message). l ++ drop from (messages vs)) (append-nil (take from (messages vs))) ∙ take-append-drop from (messages vs))));
      }

  pub wiping_next : (ws : List ℕ) (j : ℕ) (x : Message) → from ≤ j → j < length (messages vs) → Wiping ws j → x ≡ no_message → (j + 1) * 6 ≤ length ws
      → Wiping (stored ws j x) (j + 1)
  wiping_next ws j x h k w y b =
      let es = messages vs in
      let a = length-take-le from (messages vs) (omega arith) in
      let c = length-replicate (j - from) no_message in
      let l = length-append (take from (messages vs)) (replicate (j - from) no_message) in
      let e : j - from + 1 ≡ j + 1 - from = omega arith in
      record {
        is = laid_put vs ws (wiped j) j x w.is b ∙ ap (laid vs) (ap (set (wiped j) j) y
            ∙ (over-set no_message (take from (messages vs) ++ replicate (j - from) no_message) (messages vs) j no_message (omega arith) k
            ∙ ap (λ (t : List Message). t ++ drop (j + 1) (messages vs))
            (append_assoc (take from (messages vs)) (replicate (j - from) no_message) (no_message ∷ []) ∙ ap (λ (t : List Message). take from (messages vs) ++ t) (replicate_more no_message (j - from) ∙ ap (λ (n : ℕ). replicate n no_message) e))));
      }

  pub wiping_end : (ws : List ℕ) (j upto : ℕ) → j ≡ upto → Wiping ws j → ws ≡ laid vs (take from (messages vs) ++ (replicate (upto - from) no_message ++ drop upto (messages vs)))
  wiping_end ws j upto e w =
      w.is
      ∙ ap (laid vs)
      (append_assoc (take from (messages vs)) (replicate (j - from) no_message) (drop j (messages vs))
      ∙ ap (λ (n : ℕ). take from (messages vs) ++ (replicate (n - from) no_message ++ drop n (messages vs))) e)

-- both: those that stay, then nothing up to what was used
pub refilled : (es ms ms' k : List Message) (o used : ℕ) → o ≡ length k → o ≤ used → ms ≡ k ++ drop o es
    → ms' ≡ take o ms ++ (replicate (used - o) no_message ++ drop used ms) → ms' ≡ refill no_message es used k
refilled es ms ms' k o used e h p q =
    let m : max used (length k) ≡ used = omega arith in
    let t : take o (k ++ drop o es) ≡ k = take_at k (drop o es) o (sym e) in
    let u : used ≡ length k + (used - o) = omega arith in
    let v : o + (used - o) ≡ used = omega arith in
    let d : drop used (k ++ drop o es) ≡ drop used es = ap (λ (n : ℕ). drop n (k ++ drop o es)) u ∙
    (drop-append-add k (drop o es) (used - o) ∙ (drop-drop (used - o) o es ∙ ap (λ (n : ℕ). drop n es) v)) in
    q ∙ (ap (λ (l : List Message). take o l ++ (replicate (used - o) no_message ++ drop used l)) p
    ∙ (ap₂ (λ (a b : List Message). a ++ (replicate (used - o) no_message ++ b)) t d
    ∙ ap₂ (λ (n i : ℕ). k ++ (replicate (used - n) no_message ++ drop i es)) e (sym m)))

pub settled : (vs us ws : List ℕ) (k : List Message) (o used : ℕ) → o ≡ length k → o ≤ used → us ≡ laid vs (k ++ drop o (messages vs))
    → ws ≡ laid us (take o (messages us) ++ (replicate (used - o) no_message ++ drop used (messages us))) → ws ≡ laid vs (refill no_message (messages vs) used k)
settled vs us ws k o used e h p q =
    laid_then vs us ws (k ++ drop o (messages vs)) (take o (messages us) ++ (replicate (used - o) no_message ++ drop used (messages us))) p q
    ∙ ap (laid vs)
    (refilled (messages vs) (messages us) (take o (messages us) ++ (replicate (used - o) no_message ++ drop used (messages us))) k o used e h
    (laid-entries vs us (k ++ drop o (messages vs)) p) refl)

-- nothing goes and nothing changes
pub unsettled : (sweep : Sweep) (vs : List ℕ) (used : ℕ) → used * 6 ≤ length vs → idle sweep ≡ true
    → (vs ≡ laid vs (refill no_message (messages vs) used (kept sweep (take used (messages vs))))) × (used ≡ length (kept sweep (take used (messages vs)))) × (used ≤ used)
unsettled sweep vs used h i =
    let e = kept_idle sweep (take used (messages vs)) i in
    let n : length (kept sweep (take used (messages vs))) ≡ used = ap length e ∙ length-take-le used (messages vs) (messages-length used vs h) in
    let a : used - length (kept sweep (take used (messages vs))) ≡ 0 = omega arith in
    let b : max used (length (kept sweep (take used (messages vs)))) ≡ used = omega arith in
    (rw (a, b, e) (laid_own vs ∙ ap (laid vs) (sym (take-append-drop used (messages vs)))), sym n, omega arith)

-- a mailbox's entries go, and no other is changed
pub kept-deleted : (id : ℕ) (l : List Message) → kept (Deleted id) l ≡ filterb (λ (e : Message). not (in_mailbox id e)) l
unfolding kept
kept-deleted id l = same (filterb (λ (e : Message). not (in_mailbox id e)) l)
  where
    same : (l : List Message) → map (calm (Deleted id)) l ≡ l
    same [] = refl
    same (e ∷ l) = ap (λ (t : List Message). e ∷ t) (same l)
