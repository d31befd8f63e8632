-- The text that is printed of a fault.
use Rattle.std.specs.{Prelude.{ℕ, codes, Option, Some, None}, Fmt.{decimal, debug_char, ◌++?◌}}
use Rattle.iref_grammar.specs.Rules.{Text}
use Rattle.iref_fault.specs.declared.component.Cause.{Cause}
use Rattle.iref_fault.specs.declared.component.Cause.TheVariants.{Invalid, NoScheme, NotUtf8}
use Rattle.iref_fault.specs.declared.component.Component.{Component}
use Rattle.iref_fault.specs.declared.component.Component.TheVariants.{Scheme, UserInfo, Host, Port, Path, Query, Fragment}
use Rattle.iref_fault.specs.Faults.{FaultValue}

-- what a component is called
abbrev pub component_name : Component → Text
component_name Scheme = codes "scheme"
component_name UserInfo = codes "user info"
component_name Host = codes "host"
component_name Port = codes "port"
component_name Path = codes "path"
component_name Query = codes "query"
component_name Fragment = codes "fragment"

-- the character between quotes, as `{:?}` writes it; std says nothing of a character past ASCII
abbrev pub found_text : Option ℕ → Option Text
found_text None = Some (codes "the text ends")
found_text (Some c) = debug_char c

abbrev pub printed : Cause → ℕ → Option ℕ → Option Text
printed NoScheme at found = Some (codes "no scheme")
printed NotUtf8 at found = Some (codes "not UTF-8 at byte ") ++? Some (decimal at)
printed (Invalid component) at found =
    Some (codes "invalid ") ++? Some (component_name component) ++? Some (codes " at byte ") ++? Some (decimal at)
    ++? Some (codes ": ") ++? found_text found

-- what is wrong and at which byte, and the character that stands there, such as `invalid port at byte 10: 'x'`;
-- `None` of a character past ASCII
abbrev pub fault_text : FaultValue → Option Text
fault_text f = printed f.cause f.at f.found
