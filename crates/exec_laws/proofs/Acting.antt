-- What stays of a box.
use Rattle.exec_laws.proofs.Imports.{BoxPicture, KeepsBox, StaysBox, refl, rules}

pub stays-itself : (p : BoxPicture) → StaysBox p p
stays-itself p = search rules

pub stays-both : (p q r : BoxPicture) → StaysBox p q → StaysBox q r → StaysBox p r
stays-both p q r h1 h2 = search rules

pub keeps-itself : (p : BoxPicture) → KeepsBox p p
keeps-itself p = record { born = λ _. stays-itself p; unborn = λ _. refl; growth = refl }
