-- protocol
-- The code's access forms, as the definitions have them.
use Rattle.mdr_core.specs.declared.kind.Kind.TheVariants.{U8}
use Rattle.mdr_core.specs.declared.types.Ty.TheVariants as type
use Rattle.mdr_access.specs.declared.forms.Form.{Form as Told}
use Rattle.mdr_access.specs.declared.forms.Form.TheVariants as told
use Rattle.mdr_access.specs.Forms.{Form}

abbrev pub form_of : Told → Form
form_of (told.Touch k) = Form.Touch k
form_of (told.Follow ty) = Form.Follow ty.now
form_of told.Bytes = Form.Follow (type.Int U8)
form_of (told.Whole ty) = Form.Whole ty.now
