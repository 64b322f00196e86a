-- Demand 3 from one call to whole streams: each stream shows what it shows without the records about hidden ids. Assumes nothing.
use Rattle.std.specs.Prelude.{◌≡◌, refl, List, [], ◌∷◌, map, Bool, true, false, not, ℕ, ◌≤◌, eqb, leb, length}
use Rattle.std.proofs.Common.{sym, ◌∙◌, ap, leb-true}
use Rattle.std.proofs.lemmas.Bool.{not-true}
use Rattle.std.proofs.Math.ListN.{get_elem?}
use Rattle.model.specs.Lists.{anyb, every}
use Rattle.model.specs.Laws.{or_l, or_r, and_l, and_r, each}
use Rattle.model.specs.Records.{about}
use Rattle.model.specs.Memory.{Memory, boxes, mails, filled}
use Rattle.model.specs.Answers.{number_of, counts_of}
use Rattle.model.specs.Lawful.{lawful, sizes_ok, contents_ok}
use Rattle.model.specs.Call.{call}
use Rattle.model.specs.Hidden.{Octets, Called, calls, holds_right, ever_held, hidden, without, remaining, excepted, Unexcepted, observed, Starts, Demand3}
use Rattle.model.specs.declared.Answer.TheVariants.{Refused}
use Rattle.model.specs.declared.Refusal.TheVariants.{UnlawfulMemory}
use Rattle.demands.specs.Isolation.Alike.{Alike}
use Rattle.demands.specs.Isolation.Asked.{Dark}
use Rattle.demands.specs.Isolation.Calls.{call_left, call_off}

-- in lawful memory F is at most Q
filled-fits : (m : Memory) → lawful m ≡ true → filled m ≤ length m.queue
unfolding lawful
filled-fits m h =
    let e = each (sizes_ok m) (and_l (every (sizes_ok m)) (every (contents_ok (boxes m) (mails m) m.session)) h) in
    leb-true (filled m) (length m.queue) (and_l (leb (filled m) (length m.queue)) _ e.1.0)

-- alike, and both lawful or neither
pub record Judged (H : ℕ → Bool) (v : Bool) (s t : Memory) : Type 0 where
  pub alike : Alike H s t
  pub left : lawful s ≡ v
  pub right : lawful t ≡ v

-- in unlawful memory every call is refused by 1
unlawful-answer : (m : Memory) (o : Octets) → lawful m ≡ false → (call m o).answer ≡ Refused UnlawfulMemory
unfolding call
unlawful-answer m o e = rw e

unlawful_alike : (H : ℕ → Bool) (s t : Memory) (o : Octets) → Alike H s t → lawful s ≡ false → lawful t ≡ false → Alike H (call s o).after (call t o).after
unfolding call
unlawful_alike H s t o a e f = rw (e, f) a

-- given that a call leaves lawful memory lawful, and unlawful memory unlawful
module _ (keeps : (m : Memory) (o : Octets) → lawful (call m o).after ≡ lawful m) where
  module _ (H : ℕ → Bool) (h0 : H 0 ≡ false) (v : Bool) where
    -- a call about an id that is left out, in lawful memory or not
    dropped : (s t : Memory) (o : Octets) → Judged H v s t → Dark H s → Dark H (call s o).after → H (about o) ≡ true → Judged H v (call s o).after t
    dropped s t o j d d' h = record {
      alike = (call_off H h0 s t j.alike d o h).says d';
      left = keeps s o ∙ j.left;
      right = j.right;
    }

    -- a call about another
    stepped : (s t : Memory) (o : Octets) → Judged H v s t → Dark H s → H (about o) ≡ false → excepted (call s o).answer ≡ false
        → ((call s o).answer ≡ (call t o).answer) × Judged H v (call s o).after (call t o).after
    stepped s t o j d h x = go v refl
      where
        judged : Alike H (call s o).after (call t o).after → Judged H v (call s o).after (call t o).after
        judged k = record { alike = k; left = keeps s o ∙ j.left; right = keeps t o ∙ j.right }

        go : (w : Bool) → v ≡ w → ((call s o).answer ≡ (call t o).answer) × Judged H v (call s o).after (call t o).after
        go true e =
            let k = (call_left H h0 s t j.alike d o v j.left j.right (filled-fits s (j.left ∙ e)) h).says x in
            (sym k.answer, judged k.after)
        go false e = (unlawful-answer s o (j.left ∙ e) ∙ sym (unlawful-answer t o (j.right ∙ e)), judged (unlawful_alike H s t o j.alike (j.left ∙ e) (j.right ∙ e)))

    abbrev Same : Memory → Memory → List Octets → Type 0
    Same s t os = map observed (remaining H (calls s os)) ≡ map observed (calls t (without H os))

    -- no id of H holds a right after a call
    abbrev Silent : Memory → List Octets → Type 0
    Silent s os = (i : ℕ) → H i ≡ true → anyb (λ (c : Called). holds_right i c.after) (calls s os) ≡ false

    abbrev Claim : List Octets → Type 0
    Claim os = (s t : Memory) → Judged H v s t → Dark H s → Silent s os → Unexcepted (remaining H (calls s os)) → Same s t os

    next : (o : Octets) (os : List Octets) → Claim os → (b : Bool) → H (about o) ≡ b → Claim (o ∷ os)
    next o os ih true e s t j d q h =
        let d' : Dark H (call s o).after = λ i hi. or_l _ _ (q i hi) in
        rw e (ih (call s o).after t (dropped s t o j d d' e) d' (λ i hi. or_r (holds_right i (call s o).after) _ (q i hi)) (rw e at h))
    next o os ih false e s t j d q h =
        let d' : Dark H (call s o).after = λ i hi. or_l _ _ (q i hi) in
        let h' = rw e at h in
        let k = stepped s t o j d e (or_l _ _ h') in
        let rest = ih (call s o).after (call t o).after k.1 d' (λ i hi. or_r (holds_right i (call s o).after) _ (q i hi)) (or_r (excepted (call s o).answer) _ h') in
        rw e (λ r. (number_of (k.0 r), counts_of (k.0 r), sym k.1.alike.hold r) ∷ rest r)

    -- every stream shows what it shows without the records about ids of H
    pub erased : (os : List Octets) → Claim os
    erased [] s t j d q h = refl
    erased (o ∷ os) s t j d q h = next o os (erased os) (H (about o)) refl s t j d q h

  -- ---- the start
  start_alike : (H : ℕ → Bool) → H 0 ≡ false → (m n : Memory) → Starts m n → Alike H m n
  start_alike H h0 m n z = record {
    box = rw (z.counts, z.counts');
    mail = rw (z.counts, z.counts');
    session = z.session' ∙ sym z.session;
    fill = rw (z.counts, z.counts');
    hold = rw (z.counts, z.counts');
    wide = z.queue;
    rows = z.rows;
    entries = z.entries;
    awake = rw z.session h0;
  }

  start-lawful : (m n : Memory) → Starts m n → lawful n ≡ lawful m
  unfolding lawful
  start-lawful m n z = rw (z.counts, z.counts', z.session, z.session', z.queue, z.rows, z.entries)

  -- DEMAND 3, given that a call keeps memory lawful
  pub demand : Demand3
  demand m n z a b e ha hb k =
      let H : ℕ → Bool = hidden m n a b in
      let z' : Starts n n = record { counts = z.counts'; counts' = z.counts'; session = z.session'; session' = z.session'; queue = refl; rows = refl; entries = refl } in
      let qa : (i : ℕ) → H i ≡ true → ever_held m a i ≡ false = λ i h. not-true (ever_held m a i) (and_l (not (ever_held m a i)) (not (ever_held n b i)) (and_r (not (eqb i 0)) _ h)) in
      let qb : (i : ℕ) → H i ≡ true → ever_held n b i ≡ false = λ i h. not-true (ever_held n b i) (and_r (not (ever_held m a i)) (not (ever_held n b i)) (and_r (not (eqb i 0)) _ h)) in
      let ja : Judged H (lawful m) m n = record { alike = start_alike H refl m n z; left = refl; right = start-lawful m n z } in
      let jb : Judged H (lawful n) n n = record { alike = start_alike H refl n n z'; left = refl; right = refl } in
      let pa = erased H refl (lawful m) a m n ja (λ i h. or_l _ _ (qa i h)) (λ i h. or_r (holds_right i m) _ (qa i h)) ha in
      let pb = erased H refl (lawful n) b n n jb (λ i h. or_l _ _ (qb i h)) (λ i h. or_r (holds_right i n) _ (qb i h)) hb in
      ap (λ l. get_elem? l k) (pa ∙ (ap (λ (l : List Octets). map observed (calls n l)) e ∙ sym pb))
