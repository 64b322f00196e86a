-- What a list of attributes asks for, joined attribute by attribute, is what its definition gathers. Assumes nothing.
use Rattle.std.proofs.Common.{◌≡◌, ℕ, List, [], ◌∷◌, refl}
use Rattle.model.specs.Requests.{Attribute, uid, flags, size, other_attribute}
use Rattle.model.specs.Reading.{list_at}
use Rattle.model.specs.Attributes.{attribute_at}
use Rattle.octets.specs.Joined.{list_joined, joined_list}
use Rattle.read_attributes.specs.Asked.{kind_of, alone, both, gather, read_alone, read_attributes}

alone-gathers : (a : Attribute) → alone (kind_of a) ≡ gather (a ∷ [])
alone-gathers uid = refl
alone-gathers flags = refl
alone-gathers size = refl
alone-gathers other_attribute = refl

both-gather : (a : Attribute) (l : List Attribute) → both (alone (kind_of a)) (gather l) ≡ gather (a ∷ l)
both-gather uid l = refl
both-gather flags l = refl
both-gather size l = refl
both-gather other_attribute l = refl

pub list_gathers : (s : List ℕ) (p : ℕ) → list_joined (read_alone s) both s p ≡ read_attributes (list_at (attribute_at s) s p)
list_gathers s p = joined_list (λ (a : Attribute). alone (kind_of a)) gather both alone-gathers both-gather (attribute_at s) s p
