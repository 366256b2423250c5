mod Laws
mod RatioLaws
