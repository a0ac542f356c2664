-- The number, the place and the layer of a fault.
use Rattle.std.specs.Prelude.{ℕ, List, codes}
use Rattle.text.specs.declared.fault.TextFault.TheVariants.{NoKind, BadNumber}
use Rattle.form.specs.declared.fault.FormFault.TheVariants.{Text, NotDue, NoForm}
use Rattle.bounds.specs.declared.fault.BookFault.{BookFault}
use Rattle.bounds.specs.declared.fault.BookFault.TheVariants.{Form, Range, Order}
use Rattle.bounds.specs.declared.fault.Layer as layer
use Rattle.bounds.specs.declared.fault.Layer.{Layer}

abbrev pub number_of : BookFault → ℕ
number_of (Form (Text (NoKind p))) = 12
number_of (Form (Text (BadNumber p))) = 13
number_of (Form (NotDue p)) = 14
number_of (Form (NoForm p)) = 15
number_of (Range p) = 16
number_of (Order p) = 17

abbrev pub place_of : BookFault → ℕ
place_of (Form (Text (NoKind p))) = p
place_of (Form (Text (BadNumber p))) = p
place_of (Form (NotDue p)) = p
place_of (Form (NoForm p)) = p
place_of (Range p) = p
place_of (Order p) = p

abbrev pub layer_of : BookFault → Layer
layer_of (Form (Text f)) = layer.TheVariants.Text
layer_of (Form (NotDue p)) = layer.TheVariants.Form
layer_of (Form (NoForm p)) = layer.TheVariants.Form
layer_of (Range p) = layer.TheVariants.Book
layer_of (Order p) = layer.TheVariants.Book

abbrev pub layer_name : Layer → List ℕ
layer_name layer.TheVariants.Text = codes "text"
layer_name layer.TheVariants.Form = codes "form"
layer_name layer.TheVariants.Book = codes "book"
