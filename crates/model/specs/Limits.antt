-- How large a command may be: what is counted in it, and the most that is taken (01, Commands, 17).
use Rattle.std.specs.Prelude.{Bool, false, ◌||◌, List, [], ◌∷◌, map, ℕ, ◌+◌, max, ltb, length}
use Rattle.model.specs.Requests.{Filter, names_of, Asked}
use Rattle.model.specs.Requests.{Part, Test, all, unsupported, flagged, larger, smaller, uids, numbers, Key, test, non, either, group, Keys, end, more}
use Rattle.model.specs.Requests.{Command, notify_none, notify_set, search}
use Rattle.model.specs.declared.Limits.{Limits}

-- those that 01 gives (Commands, 17): groups or sources, names in all of them together, keys, how deep lists are nested, parts of a single set
abbrev pub limits : Limits
limits = record { groups = 8; names = 16; keys = 32; depth = 8; parts = 16 }

abbrev pub name_count : List Filter → ℕ
name_count [] = 0
name_count (f ∷ fs) = length (names_of f) + name_count fs

abbrev pub too_many_filters : Limits → List Filter → Bool
too_many_filters l fs = ltb l.groups (length fs) || ltb l.names (name_count fs)

-- ---- keys
-- how many: each NOT, OR and list is one, and so is each key inside them
unfoldable mutual
  pub key_count : Key → ℕ
  key_count (test t) = 1
  key_count (non k) = 1 + key_count k
  key_count (either a b) = 1 + key_count a + key_count b
  key_count (group ks) = 1 + keys_count ks

  pub keys_count : Keys → ℕ
  keys_count end = 0
  keys_count (more k ks) = key_count k + keys_count ks

-- how deep lists are nested: NOT and OR add nothing, and the command's own keys are no list
unfoldable mutual
  pub key_depth : Key → ℕ
  key_depth (test t) = 0
  key_depth (non k) = key_depth k
  key_depth (either a b) = max (key_depth a) (key_depth b)
  key_depth (group ks) = 1 + keys_depth ks

  pub keys_depth : Keys → ℕ
  keys_depth end = 0
  keys_depth (more k ks) = max (key_depth k) (keys_depth ks)

-- a test that is such stands among the keys, at whatever depth
unfoldable mutual
  pub some_test : (Test → Bool) → Key → Bool
  some_test such (test t) = such t
  some_test such (non k) = some_test such k
  some_test such (either a b) = some_test such a || some_test such b
  some_test such (group ks) = some_tests such ks

  pub some_tests : (Test → Bool) → Keys → Bool
  some_tests such end = false
  some_tests such (more k ks) = some_test such k || some_tests such ks

-- the parts of the set that a test has; a range is one part
abbrev pub parts_of : Test → List Part
parts_of all = []
parts_of unsupported = []
parts_of (flagged b on) = []
parts_of (larger n) = []
parts_of (smaller n) = []
parts_of (uids l) = l
parts_of (numbers l) = l

abbrev pub too_many_parts : Limits → Test → Bool
too_many_parts l t = ltb l.parts (length (parts_of t))

abbrev pub too_many_keys : Limits → Keys → Bool
too_many_keys l ks = (ltb l.keys (keys_count ks) || ltb l.depth (keys_depth ks)) || some_tests (too_many_parts l) ks

-- ---- the command
-- one of these counts is above its limit; the octets of the answer are another matter
abbrev pub command_too_large : Limits → Command → Bool
command_too_large l notify_none = false
command_too_large l (notify_set status gs) = too_many_filters l (map (λ (g : Asked). g.filter) gs)
command_too_large l (search q) = too_many_filters l q.sources || too_many_keys l q.keys
