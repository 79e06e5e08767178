-- What the laws of reading back and writing back speak of; no contract cites it.
use Rattle.std.specs.Prelude.{◌^◌, ◌<◌}
use Rattle.flow.specs.Rules.{port_of}
use Rattle.message.specs.declared.End.{End}
use Rattle.message.specs.declared.End.TheVariants.{Switch, Controller}
use Rattle.message.specs.declared.Message.{Message}
use Rattle.message.specs.declared.Message.TheVariants.{Event, Share, Acknowledgement, Refused}

-- numbers of several bytes fit their fields, as the types of the code say
abbrev pub InRange : Message → Type 0
InRange (Event s c n x) = n < 256 ^ 4
InRange (Share c s n r) = (n < 256 ^ 4) × (r.prefix < 256 ^ 4) × (port_of r.action < 256 ^ 2)
InRange (Acknowledgement s c n) = n < 256 ^ 4
InRange (Refused k) = ⊥

-- the end that a message is for
abbrev pub end_of : Message → End
end_of (Event s c n x) = Controller
end_of (Share c s n r) = Switch
end_of (Acknowledgement s c n) = Controller
end_of (Refused k) = Controller
