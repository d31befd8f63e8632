-- What is wrong in a text, as C sees it.
use Rattle.std.specs.Prelude.{ℕ, Option, None, Some}
use Rattle.iref.specs.Faults.{FaultValue}
use Rattle.iref_fault.specs.declared.component.Cause.{Cause}
use Rattle.iref_fault.specs.declared.component.Cause.TheVariants.{Invalid, NoScheme, NotUtf8}
use Rattle.iref_fault.specs.declared.component.Component.{Component}
use Rattle.iref_fault.specs.declared.component.Component.TheVariants as component
use Rattle.iref_c.specs.declared.fault.Place.{Place}
use Rattle.iref_c.specs.declared.fault.TheConstants as number

abbrev pub number_of_component : Component → ℕ
number_of_component component.Scheme = number.SCHEME
number_of_component component.UserInfo = number.USER_INFO
number_of_component component.Host = number.HOST
number_of_component component.Port = number.PORT
number_of_component component.Path = number.PATH
number_of_component component.Query = number.QUERY
number_of_component component.Fragment = number.FRAGMENT

-- `NoScheme` is no cause of a reference, which needs no scheme
abbrev pub number_of_cause : Cause → ℕ
number_of_cause (Invalid c) = number_of_component c
number_of_cause NoScheme = number.SCHEME
number_of_cause NotUtf8 = number.NOT_UTF8

-- the place, or zeros
abbrev pub place_for_c : Option FaultValue → Place
place_for_c None = record { what = number.NOTHING; at = 0 }
place_for_c (Some fault) = record { what = number_of_cause fault.cause; at = fault.at }
