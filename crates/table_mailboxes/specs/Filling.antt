-- How the columns are filled, a row after the other: what stands after i rows, and how a row more keeps it. Assumes nothing.
use Rattle.std.specs.Prelude.{◌≡◌, List, ℕ, ◌+◌, ◌*◌, ◌<◌, ◌≤◌, length, take, get_or, set}
use Rattle.std.proofs.Common.{ap, sym, ◌∙◌, arith, length-set, get_or-take, length-take-le}
use Rattle.std.proofs.Math.Seq.{paste}
use Rattle.model.specs.Memory.{no_mailbox, counter_of}
use Rattle.model.specs.declared.Mailbox.{Mailbox}
use Rattle.table_mailboxes.specs.Columns.{Laid, First, FirstNames, Column, column_next, rest_next, names_next}

-- the columns when i rows are laid out
pub record Filling (rows : List Mailbox) (i : ℕ) (ids attributes lens validities nexts counters names : List ℕ) : Type 0 where
  pub many-ids : length ids ≡ 64
  pub many_attributes : length attributes ≡ 64
  pub many_lens : length lens ≡ 64
  pub many_validities : length validities ≡ 64
  pub many_nexts : length nexts ≡ 64
  pub many_counters : length counters ≡ 64
  pub many-octets : length names ≡ 4096
  pub id : First (λ (x : Mailbox). x.id) rows i ids
  pub attribute : First (λ (x : Mailbox). x.attributes) rows i attributes
  pub len : First (λ (x : Mailbox). x.namelen) rows i lens
  pub validity : First (λ (x : Mailbox). x.uidvalidity) rows i validities
  pub next : First (λ (x : Mailbox). x.uidnext) rows i nexts
  pub counter : First counter_of rows i counters
  pub name : FirstNames rows i names
  pub rest : (k : ℕ) → i ≤ k → get_or nexts k 0 ≡ 0

module _ (rows : List Mailbox) (ids attributes lens validities nexts counters names : List ℕ) where
  -- none yet
  pub filling_start : length ids ≡ 64 → length attributes ≡ 64 → length lens ≡ 64 → length validities ≡ 64 → length nexts ≡ 64 → length counters ≡ 64 → length names ≡ 4096 → ((k : ℕ) → get_or nexts k 0 ≡ 0) → Filling rows 0 ids attributes lens validities nexts counters names
  filling_start a b c d e f g z = record {
    many-ids = a;
    many_attributes = b;
    many_lens = c;
    many_validities = d;
    many_nexts = e;
    many_counters = f;
    many-octets = g;
    id = λ k h. absurd (let y : ⊥ = omega arith in y);
    attribute = λ k h. absurd (let y : ⊥ = omega arith in y);
    len = λ k h. absurd (let y : ⊥ = omega arith in y);
    validity = λ k h. absurd (let y : ⊥ = omega arith in y);
    next = λ k h. absurd (let y : ⊥ = omega arith in y);
    counter = λ k h. absurd (let y : ⊥ = omega arith in y);
    name = λ k h. absurd (let y : ⊥ = omega arith in y);
    rest = λ k h. z k;
  }

  module _ (i : ℕ) (g : Filling rows i ids attributes lens validities nexts counters names) where
    -- row i, which is x, is laid out
    pub filling_next : (x : Mailbox) (u v w c : ℕ) (names' : List ℕ) → i < 64 → x ≡ get_or rows i no_mailbox → length x.name ≡ 64 → u ≡ x.id → v ≡ x.uidvalidity → w ≡ x.uidnext → c ≡ counter_of x → names' ≡ paste names (64 * i) x.name 64 → length names' ≡ 4096
        → Filling rows (i + 1) (set ids i u) (set attributes i x.attributes) (set lens i x.namelen) (set validities i v) (set nexts i w) (set counters i c) names'
    filling_next x u v w c names' h e l p q r s n m =
        let many-i = g.many-ids in
        let many-a = g.many_attributes in
        let many-l = g.many_lens in
        let many-v = g.many_validities in
        let many-n = g.many_nexts in
        let many-c = g.many_counters in
        record {
          many-ids = length-set ids i u ∙ many-i;
          many_attributes = length-set attributes i x.attributes ∙ many-a;
          many_lens = length-set lens i x.namelen ∙ many-l;
          many_validities = length-set validities i v ∙ many-v;
          many_nexts = length-set nexts i w ∙ many-n;
          many_counters = length-set counters i c ∙ many-c;
          many-octets = m;
          id = column_next (λ (x : Mailbox). x.id) rows ids i u (omega arith) (p ∙ ap (λ (x : Mailbox). x.id) e) g.id;
          attribute = column_next (λ (x : Mailbox). x.attributes) rows attributes i x.attributes (omega arith) (ap (λ (x : Mailbox). x.attributes) e) g.attribute;
          len = column_next (λ (x : Mailbox). x.namelen) rows lens i x.namelen (omega arith) (ap (λ (x : Mailbox). x.namelen) e) g.len;
          validity = column_next (λ (x : Mailbox). x.uidvalidity) rows validities i v (omega arith) (q ∙ ap (λ (x : Mailbox). x.uidvalidity) e) g.validity;
          next = column_next (λ (x : Mailbox). x.uidnext) rows nexts i w (omega arith) (r ∙ ap (λ (x : Mailbox). x.uidnext) e) g.next;
          counter = column_next counter_of rows counters i c (omega arith) (s ∙ ap counter_of e) g.counter;
          name = rw n (names_next names x.name i g.many-octets l h rows (ap (λ (x : Mailbox). x.name) e) g.name);
          rest = rest_next nexts i w g.rest;
        }

    -- all n of them
    pub filling_end : (n : ℕ) → i ≡ n → n ≤ length rows → Laid (take n rows) ids attributes lens validities nexts counters names
    filling_end n e w = record {
      id = column (λ (x : Mailbox). x.id) ids g.id;
      attribute = column (λ (x : Mailbox). x.attributes) attributes g.attribute;
      len = column (λ (x : Mailbox). x.namelen) lens g.len;
      validity = column (λ (x : Mailbox). x.uidvalidity) validities g.validity;
      next = column (λ (x : Mailbox). x.uidnext) nexts g.next;
      counter = column counter_of counters g.counter;
      name = λ k h. (let z = length-take-le n rows w in g.name k (omega arith) ∙ sym (ap (λ (x : Mailbox). x.name) (get_or-take n rows k no_mailbox (omega arith))));
      rest = λ k h. (let z = length-take-le n rows w in g.rest k (omega arith));
    }
      where
        column : (f : Mailbox → ℕ) (c : List ℕ) → First f rows i c → Column f (take n rows) c
        column f c p k h = let z = length-take-le n rows w in p k (omega arith) ∙ sym (ap f (get_or-take n rows k no_mailbox (omega arith)))
