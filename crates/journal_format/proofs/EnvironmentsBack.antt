-- The JSON value of an environment is read as the environment.
use Rattle.std.proofs.Common.{◌≡◌, List, [], ◌∷◌, map, Some, Ok, refl, ap, ◌∙◌}
use Rattle.markers.specs.Environment.{IsEnvironment, Texts, all_variables, text_in, text_of, texts_in}
use Rattle.markers.specs.Variables.{variable_name}
use Rattle.markers.specs.declared.variable.Variable.{Variable}
use Rattle.markers.specs.declared.variable.Variable.TheVariants as variables
use Rattle.serde_json.specs.Data.{string}
use Rattle.serde_json.specs.Find.{get}
use Rattle.changes.proofs.EnvironmentTexts.{eleven}
use Rattle.journal_format.specs.Lines.{environment_in}
use Rattle.journal_format.specs.Written.{environment_data}
use Rattle.journal_format.proofs.KeptTexts.{kept-lawful}

text-at : (texts : Texts) (variable : Variable) → get (variable_name variable) (environment_data texts) ≡ Some (string (text_of texts variable))
unfolding environment_data
text-at texts variables.ImplementationName = refl
text-at texts variables.ImplementationVersion = refl
text-at texts variables.OsName = refl
text-at texts variables.PlatformMachine = refl
text-at texts variables.PlatformPythonImplementation = refl
text-at texts variables.PlatformRelease = refl
text-at texts variables.PlatformSystem = refl
text-at texts variables.PlatformVersion = refl
text-at texts variables.PythonFullVersion = refl
text-at texts variables.PythonVersion = refl
text-at texts variables.SysPlatform = refl

text-back : (texts : Texts) → IsEnvironment texts → (variable : Variable) → text_in (environment_data texts) variable ≡ Ok (text_of texts variable)
unfolding text_in
text-back texts h variable = rw (text-at texts variable, kept-lawful variable (text_of texts variable) (h.lawful variable), h.lawful variable) refl

texts-back : (texts : Texts) → IsEnvironment texts → (vs : List Variable) → texts_in (environment_data texts) vs ≡ Ok (map (text_of texts) vs)
unfolding texts_in
texts-back texts h [] = refl
texts-back texts h (v ∷ vs) = rw (text-back texts h v, texts-back texts h vs) refl

environment_by : (texts : Texts) → texts_in (environment_data texts) all_variables ≡ Ok texts → environment_in (environment_data texts) ≡ Ok texts
unfolding environment_in environment_data
environment_by texts all = rw all refl

pub environment-back : (texts : Texts) → IsEnvironment texts → environment_in (environment_data texts) ≡ Ok texts
environment-back texts h = environment_by texts (texts-back texts h all_variables ∙ ap (λ t. Ok t) (eleven texts h.count))
