-- The elements that were worked out by hand are those of the definitions, byte for byte.
-- Assumes nothing.
use Rattle.std.proofs.Common.{◌≡◌, refl}
use Rattle.element.specs.Element.{element_bytes}
use Rattle.mail_request.specs.Examples.{Example, indirect, direct, empty, unloading, room}

abbrev Agrees : Example → Type 0
Agrees x = element_bytes x.element ≡ x.bytes

pub examples : Agrees indirect × Agrees direct × Agrees empty × Agrees unloading × Agrees room
examples = (refl, refl, refl, refl, refl)
